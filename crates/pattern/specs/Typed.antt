-- What the types of the code say of every slot and pattern: eight words and sixteen slots, and words of 16 bits.
use Rattle.std.specs.Prelude.{ℕ, ◌≤◌, ◌<◌, ◌≡◌, length, get_or}
use Rattle.pattern.specs.declared.slot.Slot.{Slot}
use Rattle.pattern.specs.declared.Pattern.{Pattern}
use Rattle.pattern.specs.Patterns.{slot_at}

pub record TypedSlot (s : Slot) : Type 0 where
  pub eight : length s.words ≡ 8
  pub word : (k : ℕ) → get_or s.words k 0 ≤ 65535

pub record Typed (f : Pattern) : Type 0 where
  pub sixteen : length f.slots ≡ 16
  pub slot : (j : ℕ) → j < 16 → TypedSlot (slot_at f j)
