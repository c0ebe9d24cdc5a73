-- The merged slots one by one.
use Prim.Native.Nat.{ℕ, zero, suc, ◌+◌, ◌-◌, ◌≤◌, ◌<◌}
use native.Mathlib.Omega.{arith}
use Rattle.std.specs.Prelude.{◌≡◌, [], ◌∷◌, length, get_or}
use Rattle.std.proofs.Math.Path.{refl, ap}
use Rattle.std.proofs.Common.{◌∙◌}
use Rattle.pattern.specs.declared.Pattern.{Pattern}
use Rattle.pattern.specs.Patterns.{no_slot, slot_at}
use Rattle.pattern.specs.Laws.Filling.{first_at}
use Rattle.merging.specs.Slots.{merged_slot}
use Rattle.merging.specs.Merging.{merged_slots, merged_pattern}

module _ (f g : Pattern) where
  -- as a loop goes through them
  pub slots_next : (j m : ℕ) → j < m → merged_slots f g j (m - j) ≡ merged_slot (slot_at f j) (slot_at g j) ∷ merged_slots f g (j + 1) (m - (j + 1))
  unfolding merged_slots
  slots_next j m h = let e : m - j ≡ suc (m - (j + 1)) = omega arith in ap (merged_slots f g j) e

  pub slots_end : (j m : ℕ) → m - j ≡ 0 → merged_slots f g j (m - j) ≡ []
  unfolding merged_slots
  slots_end j m e = ap (merged_slots f g j) e

  slots_length : (n j : ℕ) → length (merged_slots f g j n) ≡ n
  unfolding merged_slots
  slots_length zero j = refl
  slots_length (suc n) j = let e = slots_length n (j + 1) in omega arith

  slots_at : (n j i : ℕ) → i < n → get_or (merged_slots f g j n) i no_slot ≡ merged_slot (slot_at f (j + i)) (slot_at g (j + i))
  unfolding merged_slots
  slots_at zero j i h = absurd (omega arith)
  slots_at (suc n) j zero h = let e : j + 0 ≡ j = omega arith in rw e
  slots_at (suc n) j (suc i) h = let e : j + 1 + i ≡ j + suc i = omega arith in slots_at n (j + 1) i (omega arith) ∙ rw e

  -- each slot of the merged pattern
  pub merged_at : f.count ≤ 16 → (j : ℕ) → j < f.count → slot_at (merged_pattern f g) j ≡ merged_slot (slot_at f j) (slot_at g j)
  merged_at few j h =
      let z : 0 + j ≡ j = omega arith in
      first_at (merged_slots f g 0 f.count) j (omega (arith, slots_length f.count 0)) (omega arith)
      ∙ slots_at f.count 0 j h
      ∙ ap (λ (i : ℕ). merged_slot (slot_at f i) (slot_at g i)) z
