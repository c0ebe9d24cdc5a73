-- The two lists as they are printed: the entries of their rows, equally many.
use Prim.Native.Nat.{ℕ, ◌*◌, ◌≤◌}
use native.Mathlib.Omega.{arith}
use mathlib.Core.Path.{◌≡◌, sym, ap, ◌∙◌}
use mathlib.Core.Bool.{false}
use mathlib.Core.List.{List}
use lib.Dec.{ltb}
use lib.ListN.{length, take, drop, replicate, length-replicate}
use lib.Seq.{take_at}
use borrow.Author.Tests.{le-ltb}
use Rattle.std.specs.Prelude.{Result, Ok, Err}
use Rattle.pattern.specs.declared.Pattern.{Pattern}
use Rattle.pattern.specs.declared.refusal.Refusal.{Refusal}
use Rattle.pattern.specs.Laws.Accepting.{input-accepted}
use Rattle.matching.specs.Answers.{front_listed, back_written, Best}
use Rattle.basics.specs.Collections.{Every}
use Rattle.basics.specs.Laws.Collections.{every_map}
use Rattle.basics.specs.Laws.Written.{length-flat}
use Rattle.matching.specs.Lists.{leftmost, rightmost}
use Rattle.matching.specs.Occurrence.{Occurs}
use Rattle.basics.specs.Written.{flat, written}
use Rattle.counting.specs.Answers.{tallied}
use Rattle.report.specs.Lines.{table_report, lists_report, refusal_report}
use Rattle.report.specs.Report.{after_lists, after_tally, search_report}
use Rattle.report.specs.Steps.Fronts.{Fronted}

-- as many entries as rows times slots
entries : (f : Pattern) (t : List ℕ) {R : List (List ℕ)} → Every (Occurs f t) R → length (flat R) ≡ length R * f.count
entries f t h = length-flat f.count (every_map (λ r o. o.size) h)

-- they stand at the list's start
entries_first : (m : ℕ) (R : List (List ℕ)) (l : List ℕ) (n : ℕ) → length (flat R) ≡ n → take n (written m R l) ≡ flat R
entries_first m R l n e = take_at (flat R) (drop (length R * m) l) n e

-- ---- the front list

report_of : (f : Pattern) (t l : List ℕ) {a : Result ℕ Refusal} → length l ≡ 16000 → front_listed f t (length l) ≡ a → after_lists a f t ≡ search_report f t
unfolding search_report
report_of f t l size e = ap (λ (x : Result ℕ Refusal). after_lists x f t) (sym e ∙ ap (front_listed f t) size)

-- ---- the back list

-- the table that is written, where the back list is held by the list
pub record Backed (f : Pattern) (t front after : List ℕ) (rows : ℕ) : Type 0 where
  pub some : 1 ≤ f.count
  pub room : length front ≤ 16000
  pub equal : length front ≡ length (take (length front) after)
  pub shown : (high low : ℕ) → table_report rows high low f.count front (take (length front) after) (length front) ≡ lists_report f.count (leftmost f t) (rightmost f t) high low

same_table : {count rows n k : ℕ} (m high low : ℕ) {front flat_front back flat_back : List ℕ} → rows ≡ count → front ≡ flat_front → back ≡ flat_back → n ≡ k
    → table_report rows high low m front back n ≡ table_report count high low m flat_front flat_back k
same_table m high low a b d e = cc

back_of : {f : Pattern} {t front : List ℕ} (l : List ℕ) {rows : ℕ} {after : List ℕ} → length l ≡ 16000 → Best f t → Fronted f t rows front
    → after ≡ back_written f t l → Backed f t front after rows
back_of {f} {t} {front} l {rows} {after} size best r e =
    let b = best r.accepted in
    let n = length front in
    let rows_of : length (rightmost f t) * f.count ≡ rows * f.count = ap (λ (k : ℕ). k * f.count) (sym (r.count ∙ b.equal)) in
    let s : length (flat (rightmost f t)) ≡ rows * f.count = entries f t b.back.occur ∙ rows_of in
    let many : n ≡ length (leftmost f t) * f.count = ap length r.places ∙ entries f t b.front.occur in
    let same : length (leftmost f t) * f.count ≡ rows * f.count = ap (λ (k : ℕ). k * f.count) (sym r.count) in
    let fits : ltb (length l) (length (rightmost f t) * f.count) ≡ false = le-ltb (length l) (length (rightmost f t) * f.count) (omega (arith, r.room)) in
    let h : back_written f t l ≡ written f.count (rightmost f t) l = rw r.accepted (rw fits) in
    let p : take n after ≡ flat (rightmost f t) = ap (take n) (e ∙ h) ∙ entries_first f.count (rightmost f t) l n (omega arith) in
    record {
      some = ((input-accepted f (length t)).0 r.accepted).pattern.some;
      room = omega (arith, r.room);
      equal = omega (arith, ap length p);
      shown = λ high low. same_table f.count high low r.count r.places p many;
    }

-- ---- new lists of 16,000 places

abbrev pub new : List ℕ
new = replicate 16000 0

new_size : length new ≡ 16000
new_size = length-replicate {A = ℕ} 16000 0

-- a refusal is handed on
pub list_refused : (f : Pattern) (t : List ℕ) {why : Refusal} → front_listed f t (length new) ≡ Err why → refusal_report why ≡ search_report f t
list_refused f t e = report_of f t new new_size e

-- where there is none, the tally decides
pub list-found : (f : Pattern) (t : List ℕ) {rows : ℕ} → front_listed f t (length new) ≡ Ok rows → after_tally (tallied f t) f t ≡ search_report f t
list-found f t e = report_of f t new new_size e

pub backed : {f : Pattern} {t front : List ℕ} {rows : ℕ} {after : List ℕ} → Best f t → Fronted f t rows front → after ≡ back_written f t new → Backed f t front after rows
backed best r e = back_of new new_size best r e
