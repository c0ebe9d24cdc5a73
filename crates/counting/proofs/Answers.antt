-- The answers of the public calls, from the verdict of the tests up to 6, the number and the column. Assumes nothing.
use Rattle.std.proofs.Common.{◌≡◌, ℕ, ◌*◌, ◌/◌, ◌<◌, ◌≤◌, Result, Ok, Err, List, length, take, sym, refl, ap, ◌∙◌, div-lt_iff_lt-mul, le-div_iff_mul-le, le-ltb, lt-ltb}
use Rattle.pattern.specs.declared.Pattern.{Pattern}
use Rattle.pattern.specs.declared.refusal.Refusal.{Refusal}
use Rattle.pattern.specs.declared.refusal.Refusal.TheVariants.{ListLength, Tally}
use Rattle.pattern.specs.Tests.{input_verdict}
use Rattle.matching.specs.Occurrence.{plain}
use Rattle.matching.specs.Occurrences.{occurrences}
use Rattle.basics.specs.Written.{written, over}
use Rattle.counting.specs.Steps.Rows.{Column}
use Rattle.counting.specs.Halves.{halves}
use Rattle.counting.specs.Answers.{tallied, all_listed, all_written, started, starts_written}
use Rattle.counting.specs.Laws.Nine.{tallied_number, started-words, tallied_not_nine, started_not_nine}
use Rattle.counting.proofs.Columns.{column-numbers}

-- ---- the tally: the answer, which is not 9

module _ (f : Pattern) (t : List ℕ) where
  pub tally_never_nine : {r : Result ℕ Refusal} → r ≡ tallied f t → r ≡ Err Tally → ⊥
  tally_never_nine e n = tallied_not_nine f t (sym e ∙ n) refl

  pub tally_refused : {why : Refusal} → input_verdict f (length t) ≡ Err why → Err why ≡ tallied f t
  tally_refused e = rw e

  -- the number
  pub tally_fine : input_verdict f (length t) ≡ Ok tt → {n : ℕ} → n ≡ length (occurrences f t) → Ok n ≡ tallied f t
  tally_fine e q = rw (tallied_number f t e, ← q)

-- ---- all occurrences: the answer, and the list

module _ (f : Pattern) (t l : List ℕ) where
  module _ (e : input_verdict f (length t) ≡ Ok tt) where
    pub all_short : length l < length (occurrences f t) * f.count → (Err (ListLength 0) ≡ all_listed f t (length l)) × (l ≡ all_written f t l)
    all_short h = let b = lt-ltb (length l) (length (occurrences f t) * f.count) h in (rw (e, b), rw (e, b))

    pub all_fine : length (occurrences f t) * f.count ≤ length l → {rows : ℕ} → rows ≡ length (occurrences f t) → {l' : List ℕ} → l' ≡ written f.count (occurrences f t) l
        → (Ok rows ≡ all_listed f t (length l)) × (l' ≡ all_written f t l)
    all_fine h er el = let b = le-ltb (length l) (length (occurrences f t) * f.count) h in (rw (e, b) (ap (λ (k : ℕ). Ok k) er), rw (e, b) el)

  -- as many rows as the list has room for, or more
  module _ (some : 1 ≤ f.count) {n : ℕ} (q : n ≡ length (occurrences f t)) where
    pub all_over : length l / f.count < n → length l < length (occurrences f t) * f.count
    all_over h = rw (← q) ((div-lt_iff_lt-mul {k = f.count} some).0 h)

    pub all_room : n ≤ length l / f.count → length (occurrences f t) * f.count ≤ length l
    all_room h = rw (← q) ((le-div_iff_mul-le {k = f.count} some).0 h)

-- ---- how many start at each word: the answer, which is not 9, and the list

module _ (f : Pattern) (t l : List ℕ) where
  pub starts_never_nine : {r : Result ℕ Refusal} → r ≡ started f t (length l) → r ≡ Err Tally → ⊥
  starts_never_nine e n = started_not_nine f t (length l) (sym e ∙ n) refl

  pub starts_refused : {why : Refusal} → input_verdict f (length t) ≡ Err why → Err why ≡ started f t (length l)
  starts_refused e = rw e

  module _ (e : input_verdict f (length t) ≡ Ok tt) (room : length t * 2 ≤ length l) where
    pub starts_fine : Ok (length t) ≡ started f t (length l)
    starts_fine = sym (started-words f t e (length l) room)

    pub starts_list : {N : List ℕ} → Column f (plain f t) N → length t ≤ length N → {l' : List ℕ} → l' ≡ over l (halves (take (length t) N)) → l' ≡ starts_written f t l
    starts_list c h el = rw (← starts_fine) (el ∙ ap (λ (o : List ℕ). over l (halves o)) (column-numbers f t c h))
