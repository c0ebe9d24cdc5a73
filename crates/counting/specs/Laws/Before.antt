-- The promise before the halves, from the one now: a tally that was answered has the high half 0 and is the number that it was, each number
-- of its column likewise, and 9 stood where the high half is not 0.
use Rattle.std.specs.Prelude.{◌≡◌, ℕ, ◌+◌, ◌-◌, ◌*◌, ◌^◌, ◌<◌, ◌≤◌, Bool, true, false, List, length, drop, nat_lt, slice_index, slice_index_or, refl, Result, Ok, Err}
use Rattle.std.proofs.Math.Decide.{dec_lt}
use Rattle.std.proofs.Common.{arith, ap, sym, ◌∙◌, lt-ltb, le-ltb, ltb-false}
use Rattle.std.proofs.Math.ListN.{get_or-append}
use Rattle.basics.specs.Choice.{pick}
use Rattle.basics.specs.Laws.Sums.{sum_at}
use Rattle.pattern.specs.declared.Pattern.{Pattern}
use Rattle.pattern.specs.declared.refusal.Refusal.{Refusal}
use Rattle.pattern.specs.declared.refusal.Refusal.TheVariants.{ListLength, Tally}
use Rattle.pattern.specs.Tests.{Verdict, input_verdict}
use Rattle.matching.specs.Occurrences.{occurrences}
use Rattle.counting.specs.Starts.{column}
use Rattle.counting.specs.Halves.{high, low, halves}
use Rattle.counting.specs.Answers.{tallied, started_after, started, starts_written}
use Rattle.counting.specs.Before.{too_many_before, tallied_before, narrowed, started_before, starts_written_before}
use Rattle.counting.specs.Laws.Halves.{whole, high_none, low_all, high_at, low_at}
use Rattle.counting.specs.Laws.Nine.{never_too_many, started-words, err_not}
use Rattle.counting.specs.Laws.Starts.{column-length, column-sum, halves-size}

-- ---- the tally

number_is : {a b : ℕ} → ◌≡◌ {A = Result ℕ Refusal} (Ok a) (Ok b) → a ≡ b
number_is e = cc

-- only a number with the high half 0 is narrowed to a number, and that is the same
of_number : (a : Result ℕ Refusal) {n : ℕ} → narrowed a ≡ Ok n → (a ≡ Ok n) × (high n ≡ 0)
of_number (Err why) e = absurd (err_not e)
of_number (Ok m) {n} e = go (nat_lt 0 (high m)) refl e
  where
    go : (b : Bool) → nat_lt 0 (high m) ≡ b → pick b (Err Tally) (Ok (low m)) ≡ Ok n → (◌≡◌ {A = Result ℕ Refusal} (Ok m) (Ok n)) × (high n ≡ 0)
    go true q r = absurd (err_not r)
    go false q r =
        let z : high m ≡ 0 = omega (arith, ltb-false 0 (high m) q) in
        let e : m ≡ n = omega (arith, whole m, number_is r) in
        (ap (λ (k : ℕ). Ok k) e, rw (← e) z)

same_single : (n : ℕ) → pick (too_many_before n) (Err Tally) (Ok n) ≡ pick (nat_lt 0 (high n)) (Err Tally) (Ok (low n))
same_single n = elim (dec_lt n (2 ^ 64)) [
  | yes a ↦ rw (le-ltb (2 ^ 64 - 1) n (omega arith), le-ltb 0 (high n) (omega arith), low_all n a)
  | no a ↦ rw (lt-ltb (2 ^ 64 - 1) n (omega arith), lt-ltb 0 (high n) (omega arith))
]

-- the answer before is the one now, narrowed
pub tally_before : (f : Pattern) (t : List ℕ) → tallied_before f t ≡ narrowed (tallied f t)
tally_before f t = go (input_verdict f (length t)) refl
  where
    go : (v : Verdict) → input_verdict f (length t) ≡ v → tallied_before f t ≡ narrowed (tallied f t)
    go (Ok tt) e = rw (e, never_too_many f t e) (same_single (length (occurrences f t)))
    go (Err why) e = rw e

-- a tally that was answered: the number that it was, and its high half is 0
pub answered_before : (f : Pattern) (t : List ℕ) {n : ℕ} → tallied_before f t ≡ Ok n → (tallied f t ≡ Ok n) × (high n ≡ 0)
answered_before f t e = of_number (tallied f t) (sym (tally_before f t) ∙ e)

-- ---- the column

-- where it was answered: every test passed
record Passed (v : Verdict) (words total n : ℕ) : Type 0 where
  accepted : v ≡ Ok tt
  small : total < 2 ^ 64
  count : words ≡ n

words_passed : (v : Verdict) (words total : ℕ) (short : Bool) {n : ℕ} → started_after v words short (too_many_before total) ≡ Ok n → Passed v words total n
words_passed (Err why) words total short e = absurd (err_not e)
words_passed (Ok tt) words total short {n} e = go short (too_many_before total) refl e
  where
    go : (short large : Bool) → too_many_before total ≡ large → pick short (Err (ListLength 0)) (pick large (Err Tally) (Ok words)) ≡ Ok n → Passed (Ok tt) words total n
    go true large q r = absurd (err_not r)
    go false true q r = absurd (err_not r)
    go false false q r = record { accepted = refl; small = omega (arith, ltb-false (2 ^ 64 - 1) total q); count = number_is r }

-- a column that was answered, and a list with room for two numbers for each word
module _ (f : Pattern) (t old l : List ℕ) {n : ℕ} (e : started_before f t (length old) ≡ Ok n) (room : length t * 2 ≤ length l) where
  passed : Passed (input_verdict f (length t)) (length t) (length (occurrences f t)) n
  passed = words_passed (input_verdict f (length t)) (length t) (length (occurrences f t)) (nat_lt (length old) (length t)) e

  -- it is answered with as many words
  pub starts_before : started f t (length l) ≡ Ok n
  starts_before = started-words f t passed.accepted (length l) room ∙ ap (λ (k : ℕ). Ok k) passed.count

  module _ (i : ℕ) (h : i < length t) where
    small : slice_index_or (column f t) i 0 < 2 ^ 64
    small = omega (arith, sum_at (column f t) i, column-sum f t passed.accepted, passed.small)

    written_at : (k : ℕ) → k < length t * 2 → slice_index (starts_written f t l) k ≡ slice_index (halves (column f t)) k
    written_at k b = rw starts_before (get_or-append (halves (column f t)) (drop (length (halves (column f t))) l) 0 k (omega (arith, halves-size f t)))

    -- with the high half 0
    pub high_before : slice_index_or (starts_written f t l) (i * 2) 0 ≡ 0
    high_before = written_at (i * 2) (omega arith) ∙ high_at (column f t) i ∙ high_none (slice_index (column f t) i) small

    -- and the number that was written as the low half
    pub low_before : slice_index_or (starts_written f t l) (i * 2 + 1) 0 ≡ slice_index (starts_written_before f t old) i
    low_before =
        let was : slice_index_or (starts_written_before f t old) i 0 ≡ slice_index_or (column f t) i 0 =
        rw e (get_or-append (column f t) (drop (length (column f t)) old) 0 i (omega (arith, column-length f t))) in
        written_at (i * 2 + 1) (omega arith) ∙ low_at (column f t) i ∙ low_all (slice_index (column f t) i) small ∙ sym was
