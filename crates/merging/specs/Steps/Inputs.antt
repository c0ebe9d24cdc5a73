-- What the patterns' own tests and 17 leave to merge.
use Rattle.std.specs.Prelude.{ℕ, ◌≤◌, ◌<◌}
use Rattle.pattern.specs.declared.slot.Slot.{Slot}
use Rattle.pattern.specs.declared.Pattern.{Pattern}
use Rattle.pattern.specs.Patterns.{stated, slot_at}
use Rattle.pattern.specs.Words.{Rising}

-- at most eight words, which rise
pub record Ordered (s : Slot) : Type 0 where
  pub few : s.count ≤ 8
  pub rising : Rising (stated s)

-- at most sixteen slots, all of them such in either pattern
pub record Mergeable (f g : Pattern) : Type 0 where
  pub few : f.count ≤ 16
  pub first : (j : ℕ) → j < f.count → Ordered (slot_at f j)
  pub second : (j : ℕ) → j < f.count → Ordered (slot_at g j)
