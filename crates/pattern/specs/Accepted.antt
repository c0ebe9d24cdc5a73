-- The patterns and texts that are accepted, by their limits (document 01, "Text and frame"; document 02, Jobs 2 and 3).
use Rattle.std.specs.Prelude.{ℕ, ◌≤◌, ◌<◌, ◌≡◌, false}
use mathlib.Core.List.{Memᴰ}
use Rattle.pattern.specs.declared.slot.Slot.{Slot}
use Rattle.pattern.specs.declared.Pattern.{Pattern}
use Rattle.pattern.specs.Patterns.{stated, slot_at}
use Rattle.pattern.specs.Words.{Rising}

-- a slot: 1 to 8 words (excluding: 0 to 8), none of them 0, and a gap within 0 to 63
pub record AcceptedSlot (s : Slot) : Type 0 where
  pub some : s.excluding ≡ false → 1 ≤ s.count
  pub few : s.count ≤ 8
  pub nonzero : Memᴰ 0 (stated s) → ⊥
  pub ordered : s.low ≤ s.high
  pub narrow : s.high ≤ 63

-- a pattern (document 01: frame)
pub record Accepted (f : Pattern) : Type 0 where
  pub some : 1 ≤ f.count
  pub few : f.count ≤ 16
  pub slot : (j : ℕ) → j < f.count → AcceptedSlot (slot_at f j)
  pub first : (slot_at f 0).high ≡ 0
  pub least : 1 ≤ f.least
  pub ordered : f.least ≤ f.most
  pub most : f.most ≤ 20000
  pub rising : (j : ℕ) → j < f.count → Rising (stated (slot_at f j))

-- a pattern and a text of n words
pub record AcceptedInput (f : Pattern) (n : ℕ) : Type 0 where
  pub pattern : Accepted f
  pub short : n ≤ 20000
