-- No report is longer than its parts allow. Assumes nothing.
use Rattle.std.specs.Prelude.{ℕ, zero, suc, ◌+◌, ◌-◌, ◌*◌, ◌/◌, ◌%◌, ◌≤◌, ◌<◌, min, ◌≡◌, refl, Bool, true, false, List, [], ◌∷◌, ◌++◌, ltb, length, get_or, take, drop, Result, Ok, Err}
use Rattle.std.proofs.Common.{arith, div-le_self, le-mul_of_pos_right, mod-lt, ap, ◌∙◌, length-append, get_or-append-add, take_at, ltb-true, ltb-false}
use Rattle.std.proofs.Math.ListN.{get_or-append}
use Rattle.pattern.specs.Laws.Accepting.{input-accepted}
use Rattle.pattern.specs.Refusals.{number_of, place_of}
use Rattle.basics.specs.Choice.{pick}
use Rattle.pattern.specs.Tests.{Verdict, input_verdict}
use Rattle.pattern.specs.declared.Pattern.{Pattern}
use Rattle.pattern.specs.declared.refusal.Refusal.{Refusal}
use Rattle.pattern.specs.declared.refusal.Refusal.TheVariants.{FileLength, ListLength}
use Rattle.matching.specs.Answers.{front_listed}
use Rattle.basics.specs.Collections.{Every, none, more}
use Rattle.matching.proofs.Laws.Largest.{largest}
use Rattle.matching.specs.Lists.{leftmost, rightmost}
use Rattle.matching.specs.Occurrence.{Occurs}
use Rattle.basics.specs.Written.{flat}
use Rattle.counting.specs.Answers.{tallied}
use Rattle.counting.specs.Halves.{high, low}
use Rattle.format.specs.declared.input.Input.{Input}
use Rattle.format.specs.Input.{input_read}
use Rattle.basics.specs.Digits.{digits_in}
use Rattle.format.specs.Shown.{closed, joined}
use Rattle.format.specs.Texts.{shown_words, text_contents}
use Rattle.report.specs.Files.{pattern_file, text_file}
use Rattle.basics.specs.Laws.Digits.{few-digits, most-digits}
use Rattle.format.specs.Laws.Lines.{closed-append}
use Rattle.basics.specs.Laws.Writing.{overlaid_short}
use Rattle.report.specs.Lines.{count_names, entry_line, entry_lines, lists_report, refusal_names, refusal_report, table_names, values}
use Rattle.report.specs.Size.{entry_most, report_bound}
use Rattle.basics.specs.Writing.{overlaid}
use Rattle.report.specs.Report.{after_lists, after_tally, after_text, files_report, reported, search_report}

-- ---- lines

pair_length : (a b : ℕ) → length (values (a ∷ b ∷ [])) ≡ length (digits_in 19 a) + length (digits_in 19 b) + 1
unfolding joined
pair_length a b = simp length-append (omega arith)

triple_length : (a b c : ℕ) → length (values (a ∷ b ∷ c ∷ [])) ≡ length (digits_in 19 a) + length (digits_in 19 b) + length (digits_in 19 c) + 2
unfolding joined
triple_length a b c = simp length-append (omega arith)

entry_length : (a b c d : ℕ) → length (closed (values (a ∷ b ∷ c ∷ d ∷ []) ∷ [])) ≡ length (digits_in 19 a) + length (digits_in 19 b) + length (digits_in 19 c) + length (digits_in 19 d) + 4
unfolding joined closed
entry_length a b c d = simp length-append (omega arith)

two_lines : (l v : List ℕ) → length (closed (l ∷ v ∷ [])) ≡ length l + length v + 2
unfolding closed
two_lines l v = simp length-append (omega arith)

head_length : (l v n : List ℕ) (ls : List (List ℕ)) → length (closed (l ∷ v ∷ n ∷ ls)) ≡ length l + length v + length n + length (closed ls) + 3
unfolding closed
head_length l v n ls = simp length-append (omega arith)

pub refusal_size : (why : Refusal) → length (refusal_report why) ≤ report_bound
refusal_size why =
    omega (arith, two_lines refusal_names (values (number_of why ∷ place_of why ∷ [])), pair_length (number_of why) (place_of why), most-digits 19 (number_of why), most-digits 19 (place_of why))

-- ---- the table

entries-size : (m : ℕ) (front back : List ℕ) (n : ℕ) → ((e : ℕ) → e < n → length (closed (entry_line m front back e ∷ [])) ≤ entry_most + 1) → length (closed (entry_lines m front back n)) ≤ n * (entry_most + 1)
unfolding entry_lines closed
entries-size m front back zero h = omega arith
entries-size m front back (suc n) h =
    let e : length (closed (entry_lines m front back n ++ (entry_line m front back n ∷ []))) ≡ length (closed (entry_lines m front back n)) + length (closed (entry_line m front back n ∷ [])) =
    ap length (closed-append (entry_lines m front back n) (entry_line m front back n ∷ [])) ∙ length-append (closed (entry_lines m front back n)) (closed (entry_line m front back n ∷ [])) in
    omega (arith, e, h n (omega arith), entries-size m front back n (λ k l. h k (omega arith)))

-- the places of occurrences are those of a text
places_small : (f : Pattern) (t : List ℕ) {R : List (List ℕ)} → length t ≤ 20000 → Every (Occurs f t) R → (e : ℕ) → get_or (flat R) e 0 ≤ 20000
unfolding flat
places_small f t short none e = omega arith
places_small f t short (more {x = r} {xs = R} o h) e = go (ltb e (length r)) refl (places_small f t short h (e - length r))
  where
    go : (x : Bool) → ltb e (length r) ≡ x → get_or (flat R) (e - length r) 0 ≤ 20000 → get_or (r ++ flat R) e 0 ≤ 20000
    go true b k =
        let l : e < length r = ltb-true e (length r) b in
        let i : e < f.count = omega (arith, o.size) in
        omega (arith, get_or-append r (flat R) 0 e l, (o.word e i).inside)
    go false b k =
        let s : length r + (e - length r) ≡ e = omega (arith, ltb-false e (length r) b) in
        omega (arith, ap (λ (i : ℕ). get_or (r ++ flat R) i 0) s, get_or-append-add r (flat R) (e - length r) 0)

entry-size : (m : ℕ) (front back : List ℕ) (e : ℕ) → 1 ≤ m → m ≤ 16 → e < 16000 → get_or front e 0 ≤ 20000 → get_or back e 0 ≤ 20000 → length (closed (entry_line m front back e ∷ [])) ≤ entry_most + 1
entry-size m front back e some few h p q =
    omega (
      arith,
      entry_length (e / m + 1) (e % m + 1) (get_or front e 0) (get_or back e 0),
      few-digits 19 4 (e / m + 1) (omega (arith, div-le_self e m)),
      few-digits 19 1 (e % m + 1) (omega (arith, mod-lt e some)),
      few-digits 19 4 (get_or front e 0) (omega arith),
      few-digits 19 4 (get_or back e 0) (omega arith),
    )

lists-size : (f : Pattern) (t : List ℕ) (high low : ℕ) → input_verdict f (length t) ≡ Ok tt → length (leftmost f t) * f.count ≤ 16000
    → length (lists_report f.count (leftmost f t) (rightmost f t) high low) ≤ report_bound
lists-size f t high low ok room =
    let a = (input-accepted f (length t)).0 ok in
    let b = largest a in
    let m = f.count in
    let F = leftmost f t in
    let n = length F * m in
    let count : length F ≤ n = le-mul_of_pos_right (length F) a.pattern.some in
    let fit : (e : ℕ) → e < n → length (closed (entry_line m (flat F) (flat (rightmost f t)) e ∷ [])) ≤ entry_most + 1 = λ e h.
    entry-size m (flat F) (flat (rightmost f t)) e a.pattern.some a.pattern.few (omega arith) (places_small f t a.short b.front.occur e) (places_small f t a.short b.back.occur e) in
    omega (
      arith,
      head_length count_names (values (length F ∷ high ∷ low ∷ [])) table_names (entry_lines m (flat F) (flat (rightmost f t)) n),
      triple_length (length F) high low,
      few-digits 19 4 (length F) (omega arith),
      most-digits 19 high,
      most-digits 19 low,
      entries-size m (flat F) (flat (rightmost f t)) n fit,
    )

-- ---- the whole report

tally-size : (a : Result ℕ Refusal) (f : Pattern) (t : List ℕ) → input_verdict f (length t) ≡ Ok tt → length (leftmost f t) * f.count ≤ 16000 → length (after_tally a f t) ≤ report_bound
tally-size (Ok n) f t ok room = lists-size f t (high n) (low n) ok room
tally-size (Err why) f t ok room = refusal_size why

search_size : (f : Pattern) (t : List ℕ) → length (search_report f t) ≤ report_bound
unfolding search_report
search_size f t = go (input_verdict f (length t)) refl (ltb 16000 (length (leftmost f t) * f.count)) refl
  where
    go : (v : Verdict) → input_verdict f (length t) ≡ v → (x : Bool) → ltb 16000 (length (leftmost f t) * f.count) ≡ x
        → length (after_lists (front_listed f t 16000) f t) ≤ report_bound
    go (Err why) e x b = rw e (refusal_size why)
    go (Ok tt) e true b = rw (e, b) (refusal_size (ListLength (length (leftmost f t))))
    go (Ok tt) e false b = rw (e, b) (tally-size (tallied f t) f t e (ltb-false 16000 (length (leftmost f t) * f.count) b))

text-size : (r : Result Input Refusal) (t : List ℕ) → length (after_text r t) ≤ report_bound
text-size (Ok input) t = search_size input.pattern t
text-size (Err why) t = refusal_size why

pub report_size : (input : List ℕ) → length (reported input) ≤ report_bound
unfolding reported files_report
report_size input = go (ltb 60000 (length input))
  where
    go : (x : Bool) → length (pick x (refusal_report FileLength) (files_report (pattern_file input) (text_file input))) ≤ report_bound
    go true = refusal_size FileLength
    go false = text-size (input_read (pattern_file input) (text_file input) 20000) (shown_words (text_contents (text_file input)))

-- a list of so many bytes holds the whole report
pub report_whole : (input out : List ℕ) {after : List ℕ} {end : ℕ} → report_bound ≤ length out
    → (end ≡ min (length (reported input)) (length out)) × (after ≡ overlaid (reported input) out) → take end after ≡ reported input
report_whole input out {after} {end} room w =
    let fits : length (reported input) ≤ length out = omega (arith, report_size input) in
    ap (take end) (w.1 ∙ overlaid_short (reported input) out fits) ∙ take_at (reported input) (drop (length (reported input)) out) end (omega (arith, w.0))
