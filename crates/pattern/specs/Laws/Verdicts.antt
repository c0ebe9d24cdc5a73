-- The tests of the slots, as a loop goes through them.
use Prim.Native.Nat.{ℕ, suc, ◌+◌, ◌-◌, ◌<◌}
use native.Mathlib.Omega.{arith}
use Rattle.std.specs.Prelude.{◌≡◌, Ok, Err}
use Rattle.std.proofs.Common.{◌∙◌}
use Rattle.std.proofs.Math.Path.{ap}
use Rattle.pattern.specs.declared.slot.Slot.{Slot}
use Rattle.pattern.specs.declared.Pattern.{Pattern}
use Rattle.pattern.specs.declared.refusal.Refusal.{Refusal}
use Rattle.pattern.specs.Patterns.{slot_at}
use Rattle.pattern.specs.Tests.{Verdict, and_then, slots_verdict}

module _ (test : ℕ → Slot → Verdict) (f : Pattern) (j m : ℕ) (inside : j < m) where
  one_more : slots_verdict test f j (m - j) ≡ and_then (test (j + 1) (slot_at f j)) (slots_verdict test f (j + 1) (m - (j + 1)))
  unfolding slots_verdict
  one_more = let e : m - j ≡ suc (m - (j + 1)) = omega arith in ap (slots_verdict test f j) e

  pub slots_refused : {why : Refusal} → test (j + 1) (slot_at f j) ≡ Err why → slots_verdict test f j (m - j) ≡ Err why
  slots_refused e = one_more ∙ rw e

  pub slots_on : test (j + 1) (slot_at f j) ≡ Ok tt → slots_verdict test f j (m - j) ≡ slots_verdict test f (j + 1) (m - (j + 1))
  slots_on e = one_more ∙ rw e

pub slots_end : (test : ℕ → Slot → Verdict) (f : Pattern) (j m : ℕ) → m - j ≡ 0 → slots_verdict test f j (m - j) ≡ Ok tt
unfolding slots_verdict
slots_end test f j m e = ap (slots_verdict test f j) e
