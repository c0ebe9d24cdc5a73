-- When two patterns say the same (document 02, Job 3): they have as many slots, and their span limits, gaps, slot marks and sets of listed
-- words agree.
use Rattle.std.specs.Prelude.{ℕ, ◌<◌, ◌≡◌, ◌↔◌}
use mathlib.Core.List.{Memᴰ}
use Rattle.pattern.specs.declared.slot.Slot.{Slot}
use Rattle.pattern.specs.declared.Pattern.{Pattern}
use Rattle.pattern.specs.Patterns.{stated, slot_at}

pub record AgreeSlot (s u : Slot) : Type 0 where
  pub low : s.low ≡ u.low
  pub high : s.high ≡ u.high
  pub excluding : s.excluding ≡ u.excluding
  pub words : (w : ℕ) → Memᴰ w (stated s) ↔ Memᴰ w (stated u)

pub record Agree (f g : Pattern) : Type 0 where
  pub count : f.count ≡ g.count
  pub least : f.least ≡ g.least
  pub most : f.most ≡ g.most
  pub slot : (j : ℕ) → j < f.count → AgreeSlot (slot_at f j) (slot_at g j)
