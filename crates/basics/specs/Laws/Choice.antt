-- Laws of tests and of choices by them.
use Rattle.std.specs.Prelude.{ℕ, ◌+◌, ◌≤◌, ◌≡◌, refl, Bool, true, false, eqb}
use Rattle.std.proofs.Math.Decide.{ℕ_discrete}
use Rattle.std.proofs.Common.{arith, sym, ◌∙◌, eq-eqb, ne_eqb}
use Rattle.basics.specs.Choice.{when}

-- what cannot be true is false
pub is_false : (b : Bool) → (b ≡ true → ⊥) → b ≡ false
is_false true h = absurd (h refl)
is_false false h = refl

-- the same added to both
pub eqb-shifted : (a b n : ℕ) → eqb (a + n) (b + n) ≡ eqb a b
eqb-shifted a b n = elim (ℕ_discrete a b) [
  | yes e ↦ eq-eqb (a + n) (b + n) (omega arith) ∙ sym (eq-eqb a b e)
  | no e ↦ ne_eqb (a + n) (b + n) (λ d. e (omega arith)) ∙ sym (ne_eqb a b e)
]

-- at most as much as where the test holds
pub when-bound : (b : Bool) {n m : ℕ} → n ≤ m → when b n ≤ m
unfolding when
when-bound true h = h
when-bound false h = omega arith
