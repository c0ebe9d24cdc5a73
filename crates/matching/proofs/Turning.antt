-- The loops that read a pattern and a row from the end. Assumes nothing.
use Prim.Native.Nat.{ℕ, ◌+◌, ◌-◌, ◌≤◌, ◌<◌}
use native.Mathlib.Omega.{arith}
use mathlib.Core.List.{List}
use mathlib.Core.Path.{◌≡◌, ap, ◌∙◌}
use lib.ListN.{length}
use Rattle.pattern.specs.declared.Pattern.{Pattern}
use Rattle.pattern.specs.declared.slot.Slot.{Slot}
use Rattle.pattern.specs.Patterns.{takes, slot_at, with_gap}
use Rattle.pattern.specs.Laws.Slots.{takes_gap}
use Rattle.matching.specs.Occurrence.{at}
use Rattle.matching.specs.Steps.Turning.{Gap, TurnedSlot}

pub turned-slot : (f : Pattern) (j k : ℕ) {s : Slot} → j < f.count → Gap f.count j k → s ≡ with_gap (slot_at f (f.count - 1 - j)) (slot_at f k).low (slot_at f k).high → TurnedSlot f j s
turned-slot f j k l G d = rw d record {
  words = λ i e w. takes_gap (slot_at f (f.count - 1 - j)) (slot_at f k).low (slot_at f k).high w ∙ ap (λ (x : ℕ). takes (slot_at f x) w) (omega arith);
  low = λ i e h. ap (λ (x : ℕ). (slot_at f x).low) (omega (arith, G.back h));
  high = λ i e h. ap (λ (x : ℕ). (slot_at f x).high) (omega (arith, G.back h));
}

-- the first j places of p are those of the row from its end, the others 0
pub record Flipping (m n : ℕ) (row p : List ℕ) (j : ℕ) : Type 0 where
  pub within : j ≤ m
  pub size : length p ≡ 16
  pub turn : (k : ℕ) → k < j → (i : ℕ) → i + k + 1 ≡ m → at p k ≡ n + 1 - at row i
  pub rest : (k : ℕ) → j ≤ k → at p k ≡ 0
