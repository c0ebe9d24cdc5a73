-- What the refusals 18 and 19 mean of two accepted patterns with equally many slots, without the merged pattern.
use Rattle.std.specs.Prelude.{ℕ, ◌≤◌, ◌<◌, ◌≡◌, true, ◌++◌, length, Ok, Err}
use Rattle.pattern.specs.declared.slot.Slot.{Slot}
use Rattle.pattern.specs.declared.Pattern.{Pattern}
use Rattle.pattern.specs.declared.refusal.Refusal.TheVariants.{NothingShared, TooManyWords}
use Rattle.pattern.specs.Patterns.{stated, takes, slot_at}
use Rattle.pattern.specs.Words.{sorted}
use Rattle.pattern.specs.Tests.{Verdict}

-- n lies within the bounds of both
pub record InBoth (low high low' high' n : ℕ) : Type 0 where
  pub first : (low ≤ n) × (n ≤ high)
  pub second : (low' ≤ n) × (n ≤ high')

-- a word of 16 bits that both slots take
abbrev pub SharedWord : Slot → Slot → Type 0
SharedWord s u = (w : ℕ) × ((w ≤ 65535) × ((takes s w ≡ true) × (takes u w ≡ true)))

-- a number of words that both gaps allow
abbrev pub SharedGap : Slot → Slot → Type 0
SharedGap s u = (n : ℕ) × InBoth s.low s.high u.low u.high n

-- a span that the limits of both allow
abbrev pub SharedSpan : Pattern → Pattern → Type 0
SharedSpan f g = (n : ℕ) × InBoth f.least f.most g.least g.most n

-- all that is asked: at each slot a word and a gap, and a span
pub record Share (f g : Pattern) : Type 0 where
  pub word : (j : ℕ) → j < f.count → SharedWord (slot_at f j) (slot_at g j)
  pub gap : (j : ℕ) → j < f.count → SharedGap (slot_at f j) (slot_at g j)
  pub span : SharedSpan f g

-- some of it is missing: 18
pub data Unshared (f g : Pattern) : Type 0 where
  no_word : (j : ℕ) → j < f.count → (SharedWord (slot_at f j) (slot_at g j) → ⊥) → Unshared f g
  no_gap : (j : ℕ) → j < f.count → (SharedGap (slot_at f j) (slot_at g j) → ⊥) → Unshared f g
  no_span : (SharedSpan f g → ⊥) → Unshared f g

-- where both slots are excluding they list at most eight words between them, each counted once
abbrev pub RoomSlot : Slot → Slot → Type 0
RoomSlot s u = s.excluding ≡ true → u.excluding ≡ true → length (sorted (stated s ++ stated u)) ≤ 8

-- the verdict: 18 where something is not shared; 19 where all is shared and some slot has no room; else none
pub data Judged (f g : Pattern) : Verdict → Type 0 where
  unshared : Unshared f g → Judged f g (Err NothingShared)
  crowded : Share f g → (j : ℕ) → j < f.count → (RoomSlot (slot_at f j) (slot_at g j) → ⊥) → Judged f g (Err TooManyWords)
  passed : Share f g → ((j : ℕ) → j < f.count → RoomSlot (slot_at f j) (slot_at g j)) → Judged f g (Ok tt)
