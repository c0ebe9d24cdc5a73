-- When two patterns state the same (document 01: "Entries past the stated number of slots or words are not looked at"): their stated
-- numbers, gaps, marks and span limits are equal, and so are their entries below the stated numbers. Arrays have eight words and sixteen
-- slots, so of a larger stated number all of them count.
use Rattle.std.specs.Prelude.{ℕ, ◌<◌, ◌≡◌, length, get_or}
use Rattle.pattern.specs.declared.slot.Slot.{Slot}
use Rattle.pattern.specs.declared.Pattern.{Pattern}
use Rattle.pattern.specs.Patterns.{slot_at}

pub record SameSlot (s u : Slot) : Type 0 where
  pub count : s.count ≡ u.count
  pub low : s.low ≡ u.low
  pub high : s.high ≡ u.high
  pub excluding : s.excluding ≡ u.excluding
  pub word : (k : ℕ) → k < s.count → get_or s.words k 0 ≡ get_or u.words k 0
  -- of every two slots
  pub long : length s.words ≡ length u.words

pub record SameStated (f g : Pattern) : Type 0 where
  pub count : f.count ≡ g.count
  pub least : f.least ≡ g.least
  pub most : f.most ≡ g.most
  pub slot : (j : ℕ) → j < f.count → SameSlot (slot_at f j) (slot_at g j)
