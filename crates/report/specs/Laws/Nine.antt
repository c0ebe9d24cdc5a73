-- No input is refused with 9: the files are not, nor the pattern and the text, nor the lists; and where these have room, the halves of the
-- number of all occurrences are printed.
use Rattle.std.specs.Prelude.{ℕ, ◌*◌, ◌≡◌, refl, List, Bool, true, false, length, get_or, ltb, Result, Ok, Err}
use Rattle.std.proofs.Common.{arith, ap, sym, ◌∙◌}
use Rattle.basics.specs.Choice.{pick}
use Rattle.pattern.specs.declared.Pattern.{Pattern}
use Rattle.pattern.specs.declared.refusal.Refusal.{Refusal}
use Rattle.pattern.specs.declared.refusal.Refusal.TheVariants.{SlotCount, WordCount, ZeroWord, Gap, Span, TextLength, RowLength, ListLength, Tally, Names, Values, FileLength, WordListLength, Client, Served, WordOrder, SlotsDiffer, NothingShared, TooManyWords, NotExpression, TooDeep, UnequalLengths}
use Rattle.pattern.specs.Refusals.{number_of}
use Rattle.pattern.specs.Tests.{Verdict, input_verdict}
use Rattle.matching.specs.Answers.{front_listed}
use Rattle.matching.specs.Lists.{leftmost, rightmost}
use Rattle.matching.specs.Occurrences.{occurrences}
use Rattle.counting.specs.Halves.{high, low}
use Rattle.counting.specs.Laws.Nine.{tallied_number, input_not_nine, err_not, err_is}
use Rattle.basics.specs.Digits.{digits_in}
use Rattle.format.specs.Input.{input_read}
use Rattle.format.specs.declared.input.Input.{Input}
use Rattle.format.specs.Shown.{closed, joined}
use Rattle.format.specs.Texts.{shown_words, text_contents}
use Rattle.format.specs.Laws.Refusing.{read_not_nine}
use Rattle.report.specs.Files.{pattern_file, text_file}
use Rattle.report.specs.Lines.{lists_report, refusal_report}
use Rattle.report.specs.Report.{search_report, after_text, files_report, reported}

pub halves-printed : (f : Pattern) (t : List ℕ) {rows : ℕ} → front_listed f t 16000 ≡ Ok rows
    → search_report f t ≡ lists_report f.count (leftmost f t) (rightmost f t) (high (length (occurrences f t))) (low (length (occurrences f t)))
unfolding search_report
halves-printed f t {rows} e = go (input_verdict f (length t)) refl
  where
    go : (v : Verdict) → input_verdict f (length t) ≡ v
        → search_report f t ≡ lists_report f.count (leftmost f t) (rightmost f t) (high (length (occurrences f t))) (low (length (occurrences f t)))
    go (Ok tt) q = rw (e, tallied_number f t q)
    go (Err why) q = absurd (err_not (rw q at e))

pub list_not_nine : (f : Pattern) (t : List ℕ) {why : Refusal} → front_listed f t 16000 ≡ Err why → number_of why ≡ 9 → ⊥
list_not_nine f t {why} e n = go (input_verdict f (length t)) refl
  where
    eight : (rows : ℕ) (short : Bool) → ◌≡◌ {A = Result ℕ Refusal} (pick short (Err (ListLength rows)) (Ok rows)) (Err why) → ⊥
    eight rows true q = let z = ap number_of (err_is q) in omega arith
    eight rows false q = err_not (sym q)

    go : (v : Verdict) → input_verdict f (length t) ≡ v → ⊥
    go (Ok tt) q = eight (length (leftmost f t)) (ltb 16000 (length (leftmost f t) * f.count)) (rw q at e)
    go (Err w) q = input_not_nine f t q (ap number_of (err_is (rw q at e)) ∙ n)

search_refused : (f : Pattern) (t : List ℕ) {why : Refusal} → front_listed f t 16000 ≡ Err why → search_report f t ≡ refusal_report why
unfolding search_report
search_refused f t e = rw e

-- ---- the printed number

-- a refusal whose printed number begins with a 9 is 9
first_digit : (why : Refusal) → get_or (refusal_report why) 14 0 ≡ 57 → number_of why ≡ 9
unfolding closed joined digits_in
first_digit SlotCount e = absurd (let z : 49 ≡ 57 = e in omega arith)
first_digit (WordCount slot) e = absurd (let z : 50 ≡ 57 = e in omega arith)
first_digit (ZeroWord slot) e = absurd (let z : 51 ≡ 57 = e in omega arith)
first_digit (Gap slot) e = absurd (let z : 52 ≡ 57 = e in omega arith)
first_digit Span e = absurd (let z : 53 ≡ 57 = e in omega arith)
first_digit TextLength e = absurd (let z : 54 ≡ 57 = e in omega arith)
first_digit RowLength e = absurd (let z : 55 ≡ 57 = e in omega arith)
first_digit (ListLength rows) e = absurd (let z : 56 ≡ 57 = e in omega arith)
first_digit Tally e = refl
first_digit (Names line) e = absurd (let z : 49 ≡ 57 = e in omega arith)
first_digit (Values line) e = absurd (let z : 49 ≡ 57 = e in omega arith)
first_digit FileLength e = absurd (let z : 49 ≡ 57 = e in omega arith)
first_digit WordListLength e = absurd (let z : 49 ≡ 57 = e in omega arith)
first_digit Client e = absurd (let z : 49 ≡ 57 = e in omega arith)
first_digit Served e = absurd (let z : 49 ≡ 57 = e in omega arith)
first_digit (WordOrder slot) e = absurd (let z : 49 ≡ 57 = e in omega arith)
first_digit SlotsDiffer e = absurd (let z : 49 ≡ 57 = e in omega arith)
first_digit NothingShared e = absurd (let z : 49 ≡ 57 = e in omega arith)
first_digit TooManyWords e = absurd (let z : 49 ≡ 57 = e in omega arith)
first_digit NotExpression e = absurd (let z : 50 ≡ 57 = e in omega arith)
first_digit TooDeep e = absurd (let z : 50 ≡ 57 = e in omega arith)
first_digit UnequalLengths e = absurd (let z : 50 ≡ 57 = e in omega arith)

same_number : (why : Refusal) → refusal_report why ≡ refusal_report Tally → number_of why ≡ 9
unfolding closed joined digits_in
same_number why e = first_digit why (ap (λ (s : List ℕ). get_or s 14 0) e)

lists_not : (m : ℕ) (front back : List (List ℕ)) (h l : ℕ) → lists_report m front back h l ≡ refusal_report Tally → ⊥
unfolding closed
lists_not m front back h l e = let z : ◌≡◌ {A = ℕ} 99 114 = ap (λ (s : List ℕ). get_or s 0 0) e in omega arith

-- ---- what is printed

search_not_nine : (f : Pattern) (t : List ℕ) → search_report f t ≡ refusal_report Tally → ⊥
search_not_nine f t e = go (front_listed f t 16000) refl
  where
    go : (a : Result ℕ Refusal) → front_listed f t 16000 ≡ a → ⊥
    go (Ok rows) q = lists_not f.count (leftmost f t) (rightmost f t) (high (length (occurrences f t))) (low (length (occurrences f t))) (sym (halves-printed f t q) ∙ e)
    go (Err why) q = list_not_nine f t q (same_number why (sym (search_refused f t q) ∙ e))

files_not_nine : (p t : List ℕ) → files_report p t ≡ refusal_report Tally → ⊥
unfolding files_report
files_not_nine p t e = go (input_read p t 20000) refl e
  where
    go : (a : Result Input Refusal) → input_read p t 20000 ≡ a → after_text a (shown_words (text_contents t)) ≡ refusal_report Tally → ⊥
    go (Ok i) q z = search_not_nine i.pattern (shown_words (text_contents t)) z
    go (Err why) q z = read_not_nine p t 20000 q (same_number why z)

-- the program never prints the refusal 9
pub report_not_nine : (input : List ℕ) → reported input ≡ refusal_report Tally → ⊥
unfolding reported
report_not_nine input = go (ltb 60000 (length input))
  where
    go : (x : Bool) → pick x (refusal_report FileLength) (files_report (pattern_file input) (text_file input)) ≡ refusal_report Tally → ⊥
    go true e = let z = same_number FileLength e in omega arith
    go false e = files_not_nine (pattern_file input) (text_file input) e
