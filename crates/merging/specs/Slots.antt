-- Two slots into one (document 02, Job 5): the words that both take, and the numbers that both gaps allow.
use Rattle.std.specs.Prelude.{ℕ, min, max, List, ◌++◌, Bool, true, false, ◌&&◌}
use Rattle.std.specs.Bool.{beq}
use Rattle.basics.specs.Collections.{select}
use Rattle.pattern.specs.declared.slot.Slot.{Slot}
use Rattle.pattern.specs.Patterns.{member, stated, slot_of}
use Rattle.pattern.specs.Words.{sorted}

-- those of the words xs that are among ys where `listed` is true, else those that are not
unfoldable pub kept : Bool → List ℕ → List ℕ → List ℕ
kept listed xs ys = select (λ x. beq (member x ys) listed) xs

-- the words that the merged slot lists, by the marks of two slots that list xs and ys (both rising): of two plain slots those in both; of a
-- plain and an excluding slot the plain one's that the other does not list; of two excluding slots all that either lists
abbrev pub words_by : Bool → Bool → List ℕ → List ℕ → List ℕ
words_by false false xs ys = kept true xs ys
words_by false true xs ys = kept false xs ys
words_by true false xs ys = kept false ys xs
words_by true true xs ys = sorted (xs ++ ys)

-- of two slots
abbrev pub merged_words : Slot → Slot → List ℕ
merged_words s u = words_by s.excluding u.excluding (stated s) (stated u)

-- the merged slot, excluding where both are
abbrev pub merged_slot : Slot → Slot → Slot
merged_slot s u = slot_of (max s.low u.low) (min s.high u.high) (s.excluding && u.excluding) (merged_words s u)
