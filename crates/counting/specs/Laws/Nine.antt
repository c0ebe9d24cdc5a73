-- 9 is never given: no accepted pattern and text have a tally over 2 ^ 128 - 1, and the tests before it refuse by 1 to 6, 16 and, for the
-- column, 8.
use Rattle.std.specs.Prelude.{◌≡◌, ℕ, ◌-◌, ◌*◌, ◌^◌, ◌<◌, ◌≤◌, Bool, true, false, List, length, ◌≢◌, nat_lt, refl, Result, Ok, Err}
use Rattle.std.proofs.Common.{arith, ap, sym, ◌∙◌, le-ltb}
use Rattle.basics.specs.Choice.{pick}
use Rattle.pattern.specs.declared.Pattern.{Pattern}
use Rattle.pattern.specs.declared.refusal.Refusal.{Refusal}
use Rattle.pattern.specs.declared.refusal.Refusal.TheVariants.{ListLength}
use Rattle.pattern.specs.Refusals.{number_of}
use Rattle.pattern.specs.Tests.{Verdict, input_verdict}
use Rattle.pattern.specs.Laws.Refusing.{only_input}
use Rattle.matching.specs.Occurrences.{occurrences}
use Rattle.counting.specs.Answers.{too_many, tallied, started}
use Rattle.counting.specs.Laws.Inputs.{passed}
use Rattle.counting.specs.Laws.Bound.{tally_fits}

within : (k n : ℕ) → n < k → n ≤ k - 1
within k n h = omega arith

module _ (f : Pattern) (t : List ℕ) where
  abbrev occurring : ℕ
  occurring = length (occurrences f t)

  module _ (e : input_verdict f (length t) ≡ Ok tt) where
    -- 128 bits hold the tally of an accepted pattern and text
    pub tally_below : occurring < 2 ^ 128
    tally_below = tally_fits (passed t e)

    pub never_too_many : too_many occurring ≡ false
    never_too_many = le-ltb (2 ^ 128 - 1) occurring (within (2 ^ 128) occurring tally_below)

    -- so it is the answer
    pub tallied_number : tallied f t ≡ Ok occurring
    tallied_number = rw (e, never_too_many)

    -- and the column is answered where the list is long enough
    pub started-words : (room : ℕ) → length t * 2 ≤ room → started f t room ≡ Ok (length t)
    started-words room h = rw (e, le-ltb room (length t * 2) h, never_too_many)

-- ---- no answer is 9

pub err_not : {why : Refusal} {n : ℕ} → ◌≡◌ {A = Result ℕ Refusal} (Err why) (Ok n) → ⊥
err_not e = cc

pub err_is : {a b : Refusal} → ◌≡◌ {A = Result ℕ Refusal} (Err a) (Err b) → a ≡ b
err_is e = cc

module _ (f : Pattern) (t : List ℕ) where
  pub input_not_nine : {why : Refusal} → input_verdict f (length t) ≡ Err why → number_of why ≢ 9
  input_not_nine {why} = only_input (λ n. n ≢ 9) (λ n h e. omega arith) (λ e. omega arith) (λ e. omega arith) f (length t) why

  pub tallied_not_nine : {why : Refusal} → tallied f t ≡ Err why → number_of why ≢ 9
  tallied_not_nine {why} e n = go (input_verdict f (length t)) refl
    where
      go : (v : Verdict) → input_verdict f (length t) ≢ v
      go (Ok tt) q = err_not (sym e ∙ tallied_number f t q)
      go (Err w) q = input_not_nine q (ap number_of (err_is (rw q at e)) ∙ n)

  pub started_not_nine : (room : ℕ) {why : Refusal} → started f t room ≡ Err why → number_of why ≢ 9
  started_not_nine room {why} e n = go (input_verdict f (length t)) refl
    where
      eight : (short : Bool) → pick short (Err (ListLength 0)) (Ok (length t)) ≢ Err why
      eight true q = let z = ap number_of (err_is q) in omega arith
      eight false q = err_not (sym q)

      go : (v : Verdict) → input_verdict f (length t) ≢ v
      go (Ok tt) q = eight (nat_lt room (length t * 2)) (rw (q, never_too_many f t q) at e)
      go (Err w) q = input_not_nine q (ap number_of (err_is (rw q at e)) ∙ n)
