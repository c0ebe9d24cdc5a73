-- Two patterns into one (document 02, Job 5): slot by slot, and the span limits that both allow. The tests are both patterns' own, then 17,
-- 18 and 19, each over the whole pattern.
use Rattle.std.specs.Prelude.{ℕ, zero, suc, ◌+◌, min, max, List, [], ◌∷◌, Bool, not, ◌&&◌, ◌||◌, ltb, leb, eqb, Result, Ok, Err}
use Rattle.pattern.specs.declared.slot.Slot.{Slot}
use Rattle.pattern.specs.declared.Pattern.{Pattern}
use Rattle.pattern.specs.declared.refusal.Refusal.{Refusal}
use Rattle.pattern.specs.declared.refusal.Refusal.TheVariants.{SlotsDiffer, NothingShared, TooManyWords}
use Rattle.pattern.specs.Patterns.{slot_at, first_slots, empty_pattern}
use Rattle.pattern.specs.Tests.{Verdict, refuse, and_then, slots_verdict, pattern_verdict}
use Rattle.merging.specs.Slots.{merged_slot}

-- the n merged slots from slot j on
unfoldable pub merged_slots : Pattern → Pattern → ℕ → ℕ → List Slot
merged_slots f g j zero = []
merged_slots f g j (suc n) = merged_slot (slot_at f j) (slot_at g j) ∷ merged_slots f g (j + 1) n

-- the merged pattern of two with equally many slots; entries past the stated numbers are 0
abbrev pub merged_pattern : Pattern → Pattern → Pattern
merged_pattern f g = record {
  slots = first_slots (merged_slots f g 0 f.count);
  count = f.count;
  least = max f.least g.least;
  most = min f.most g.most;
}

-- ---- the tests

-- some word is left to a merged slot, and some number to its gap
unfoldable pub remains : Slot → Bool
remains s = (s.excluding || ltb 0 s.count) && leb s.low s.high

-- 18, of a slot
abbrev pub shared_verdict : ℕ → Slot → Verdict
shared_verdict k s = refuse (not (remains s)) NothingShared (Ok tt)

-- 19, of a slot
abbrev pub room_verdict : ℕ → Slot → Verdict
room_verdict k s = refuse (ltb 8 s.count) TooManyWords (Ok tt)

-- 18, then 19, of the merged pattern
unfoldable pub result_verdict : Pattern → Verdict
result_verdict m =
    and_then (slots_verdict shared_verdict m 0 m.count)
    (refuse (ltb m.most m.least) NothingShared
    (slots_verdict room_verdict m 0 m.count))

-- all tests: the first pattern's, the second's, then 17 to 19
unfoldable pub merge_verdict : Pattern → Pattern → Verdict
merge_verdict f g =
    and_then (pattern_verdict f)
    (and_then (pattern_verdict g)
    (refuse (not (eqb f.count g.count)) SlotsDiffer
    (result_verdict (merged_pattern f g))))

-- ---- the answer

-- what is given where the tests come to the verdict
abbrev pub answered : Verdict → Pattern → Result Pattern Refusal
answered (Ok tt) m = Ok m
answered (Err why) m = Err why

-- what merging gives
unfoldable pub merged : Pattern → Pattern → Result Pattern Refusal
merged f g = answered (merge_verdict f g) (merged_pattern f g)

-- whether it is refused, and why
abbrev pub verdict_of : Result Pattern Refusal → Verdict
verdict_of (Ok m) = Ok tt
verdict_of (Err why) = Err why

-- the pattern that there is then: the merged one or, where it is refused, a new one
abbrev pub pattern_of : Result Pattern Refusal → Pattern
pattern_of (Ok m) = m
pattern_of (Err why) = empty_pattern
