-- Test 16 by examples: its place, and its order after 5 and before 6. They compute. Assumes nothing.
use Rattle.std.specs.Prelude.{ℕ, ◌≡◌, refl, false, List, [], ◌∷◌, length, Ok, Err}
use Rattle.pattern.specs.declared.slot.Slot.{Slot}
use Rattle.pattern.specs.declared.Pattern.{Pattern}
use Rattle.pattern.specs.declared.refusal.Refusal.TheVariants.{Span, WordOrder}
use Rattle.pattern.specs.Patterns.{member, slot_of}
use Rattle.pattern.specs.Words.{rises}
use Rattle.pattern.specs.Tests.{slot_verdict, slots_verdict, span_verdict, limits_verdict, pattern_verdict, input_verdict}

-- a plain slot of these words, without a gap before it
abbrev plain : List ℕ → Slot
plain ws = slot_of 0 0 false ws

-- the pattern of these slots as they are
abbrev handed : List Slot → ℕ → ℕ → Pattern
handed ss least most = record { slots = ss; count = length ss; least = least; most = most }

-- words that fall at slots 2 and 3: the place is 2; a repeated word; words that rise; broken span limits come first; a long text comes later
row_16 : (pattern_verdict (handed (plain (7 ∷ []) ∷ plain (9 ∷ 8 ∷ []) ∷ plain (2 ∷ 1 ∷ []) ∷ []) 1 20000) ≡ Err (WordOrder 2))
    × (pattern_verdict (handed (plain (7 ∷ 7 ∷ []) ∷ []) 1 20000) ≡ Err (WordOrder 1))
    × (pattern_verdict (handed (plain (7 ∷ 8 ∷ []) ∷ []) 1 20000) ≡ Ok tt)
    × (pattern_verdict (handed (plain (8 ∷ 7 ∷ []) ∷ []) 0 5) ≡ Err Span)
    × (input_verdict (handed (plain (8 ∷ 7 ∷ []) ∷ []) 1 20000) 20001 ≡ Err (WordOrder 1))
unfolding input_verdict pattern_verdict limits_verdict slots_verdict slot_verdict span_verdict rises member
row_16 = (refl, refl, refl, refl, refl)
