-- Adding a slot: tests 1, then 2, 3 and 4 of the new slot alone, with its words as they are handed over, its number being the place. Then its
-- words are put in rising order, each once.
use Rattle.std.specs.Prelude.{ℕ, ◌+◌, List, Bool, leb, Result, Ok, Err}
use Rattle.pattern.specs.declared.slot.Slot.{Slot}
use Rattle.pattern.specs.declared.Pattern.{Pattern}
use Rattle.pattern.specs.declared.refusal.Refusal.{Refusal}
use Rattle.pattern.specs.declared.refusal.Refusal.TheVariants.{SlotCount}
use Rattle.pattern.specs.Patterns.{slot_of, with_slot}
use Rattle.pattern.specs.Words.{canonical}
use Rattle.basics.specs.Choice.{pick}
use Rattle.pattern.specs.Tests.{Verdict, slot_verdict}

-- what is given where the new slot's tests come to the verdict
abbrev pub added : Verdict → Pattern → Slot → Result Pattern Refusal
added (Ok tt) f s = Ok (with_slot f s)
added (Err why) f s = Err why

-- what adding a slot gives (document 01: adding)
unfoldable pub extended : Pattern → ℕ → ℕ → Bool → List ℕ → Result Pattern Refusal
extended f low high excluding ws =
    pick (leb 16 f.count) (Err SlotCount)
    (added (slot_verdict (f.count + 1) (slot_of low high excluding ws)) f (canonical (slot_of low high excluding ws)))

-- the pattern that there is then: with the slot or, where it is refused, as it was
abbrev pub pattern_after : Pattern → Result Pattern Refusal → Pattern
pattern_after f (Ok longer) = longer
pattern_after f (Err why) = f
