-- The tally and the column are not refused by 9. Assumes nothing.
use Rattle.std.specs.Prelude.{ℕ, ◌≡◌, List, refl, Result, Ok, Err}
use Rattle.std.proofs.Common.{arith}
use Rattle.pattern.specs.declared.Pattern.{Pattern}
use Rattle.pattern.specs.declared.refusal.Refusal.{Refusal}
use Rattle.counting.specs.Answers.{tallied, started}
use Rattle.counting.specs.Laws.Nine.{tallied_not_nine, started_not_nine}
use Rattle.bindings.specs.Answers.{of_total, of_number}

module _ (f : Pattern) (t : List ℕ) where
  pub tally_number : (of_total (tallied f t)).number ≡ 9 → ⊥
  tally_number = go (tallied f t) refl
    where
      go : (a : Result ℕ Refusal) → tallied f t ≡ a → (of_total a).number ≡ 9 → ⊥
      go (Ok n) e q = omega arith
      go (Err why) e q = tallied_not_nine f t e q

  pub starts_number : (room : ℕ) → (of_number (started f t room)).number ≡ 9 → ⊥
  starts_number room = go (started f t room) refl
    where
      go : (a : Result ℕ Refusal) → started f t room ≡ a → (of_number a).number ≡ 9 → ⊥
      go (Ok n) e q = omega arith
      go (Err why) e q = started_not_nine f t room e q
