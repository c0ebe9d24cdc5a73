-- Merging by examples: what is given, and the refusals 17, 18 and 19 in their order. They compute. Assumes nothing.
use Rattle.std.specs.Prelude.{ℕ, ◌≡◌, refl, true, false, List, [], ◌∷◌, length, Ok, Err}
use Rattle.basics.specs.Collections.{keep, select}
use Rattle.pattern.specs.declared.slot.Slot.{Slot}
use Rattle.pattern.specs.declared.Pattern.{Pattern}
use Rattle.pattern.specs.declared.refusal.Refusal.TheVariants.{Gap, SlotsDiffer, NothingShared, TooManyWords}
use Rattle.pattern.specs.Patterns.{member, slot_of, first_slots}
use Rattle.pattern.specs.Words.{rises, inserted, sorted}
use Rattle.pattern.specs.Tests.{slot_verdict, slots_verdict, span_verdict, limits_verdict, pattern_verdict}
use Rattle.merging.specs.Slots.{kept}
use Rattle.merging.specs.Merging.{merged_slots, remains, result_verdict, merge_verdict, merged}

-- the pattern of these slots, with its span limits
abbrev pattern : List Slot → ℕ → ℕ → Pattern
pattern ss least most = record { slots = first_slots ss; count = length ss; least = least; most = most }

-- a plain slot of these words after a gap of low to high words, and an excluding one
abbrev only : ℕ → ℕ → List ℕ → Slot
only low high ws = slot_of low high false ws

abbrev but : ℕ → ℕ → List ℕ → Slot
but low high ws = slot_of low high true ws

-- one strict on words, the other on gaps
abbrev words : Pattern
words = pattern (only 0 0 (1 ∷ 2 ∷ []) ∷ only 0 5 (8 ∷ 9 ∷ []) ∷ but 0 9 (4 ∷ 6 ∷ []) ∷ []) 1 20000

abbrev gaps : Pattern
gaps = pattern (only 0 0 (2 ∷ 3 ∷ []) ∷ but 1 3 (8 ∷ []) ∷ but 2 20 (5 ∷ 6 ∷ []) ∷ []) 6 12

both : merged words gaps ≡ Ok (pattern (only 0 0 (2 ∷ []) ∷ only 1 3 (9 ∷ []) ∷ but 2 9 (4 ∷ 5 ∷ 6 ∷ []) ∷ []) 6 12)
unfolding merged merge_verdict pattern_verdict limits_verdict slots_verdict slot_verdict span_verdict rises member result_verdict merged_slots remains kept select keep sorted inserted
both = refl

-- two excluding slots with eight words between them, and with nine, also where a later gap has one number left; a later gap that is missed by
-- one; another number of slots; and the second pattern's own refusal before all that
abbrev six : Slot
six = but 0 0 (1 ∷ 2 ∷ 3 ∷ 4 ∷ 5 ∷ 6 ∷ [])

abbrev to_eight : Slot
to_eight = but 0 0 (3 ∷ 4 ∷ 5 ∷ 6 ∷ 7 ∷ 8 ∷ [])

abbrev to_nine : Slot
to_nine = but 0 0 (4 ∷ 5 ∷ 6 ∷ 7 ∷ 8 ∷ 9 ∷ [])

in_order : (merge_verdict (pattern (six ∷ []) 1 9) (pattern (to_eight ∷ []) 1 9) ≡ Ok tt)
    × (merge_verdict (pattern (six ∷ []) 1 9) (pattern (to_nine ∷ []) 1 9) ≡ Err TooManyWords)
    × (merge_verdict (pattern (six ∷ but 0 4 [] ∷ []) 1 9) (pattern (to_nine ∷ but 4 9 [] ∷ []) 1 9) ≡ Err TooManyWords)
    × (merge_verdict (pattern (six ∷ but 0 4 [] ∷ []) 1 9) (pattern (to_nine ∷ but 5 9 [] ∷ []) 1 9) ≡ Err NothingShared)
    × (merge_verdict (pattern (six ∷ []) 1 9) (pattern (to_nine ∷ but 5 9 [] ∷ []) 10 19) ≡ Err SlotsDiffer)
    × (merge_verdict (pattern (six ∷ []) 1 9) (pattern (to_nine ∷ but 9 5 [] ∷ []) 10 19) ≡ Err (Gap 2))
unfolding merge_verdict pattern_verdict limits_verdict slots_verdict slot_verdict span_verdict rises member result_verdict merged_slots remains kept select keep sorted inserted
in_order = (refl, refl, refl, refl, refl, refl)
