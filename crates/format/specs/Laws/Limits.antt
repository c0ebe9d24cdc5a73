-- The limits of a pattern file are tested on its words as they stand, before repeats are dropped.
use Rattle.std.specs.Prelude.{ℕ, ◌<◌, ◌≡◌, refl, false, List, [], map, length, get_or}
use Rattle.std.proofs.Common.{arith, sym, ◌∙◌, ap}
use Rattle.std.proofs.lemmas.List.{length-map}
use Rattle.pattern.specs.declared.slot.Slot.{Slot}
use Rattle.pattern.specs.declared.Pattern.{Pattern}
use Rattle.pattern.specs.Patterns.{no_slot, first_slots}
use Rattle.pattern.specs.Words.{canonical}
use Rattle.pattern.specs.Tests.{limits_verdict, pattern_verdict}
use Rattle.pattern.specs.Laws.Canonical.{padded_eight}
use Rattle.pattern.specs.Laws.Filling.{first_at}
use Rattle.pattern.specs.Laws.Limits.{Holds, verdict_held}
use Rattle.basics.specs.Laws.Collections.{map_at}
use Rattle.format.specs.Patterns.{SlotLine, made_slot, shown_pattern, stated_slot}

-- ---- one of the first sixteen slots

pub slot_of-line : (make : SlotLine → Slot) (ls : List SlotLine) (d : SlotLine) (j : ℕ) → j < length ls → j < 16 → get_or (first_slots (map make ls)) j no_slot ≡ make (get_or ls j d)
slot_of-line make ls d j h few =
    let long : length (map make ls) ≡ length ls = length-map ls make in
    first_at (map make ls) j (omega arith) few ∙ map_at make ls d no_slot j h

-- ---- the tests

-- the pattern of all the lines, with their words as they stand
abbrev pub stated_pattern : ℕ → ℕ → List SlotLine → Pattern
stated_pattern least most ls = record { slots = first_slots (map stated_slot ls); count = length ls; least = least; most = most }

no_line : SlotLine
no_line = record { low = 0; high = 0; excluding = false; words = [] }

shown-holds : (least most : ℕ) (ls : List SlotLine) → Holds (shown_pattern least most ls) (stated_pattern least most ls)
shown-holds least most ls = record {
  count = refl;
  least = refl;
  most = refl;
  slot = λ j h k. slot_of-line made_slot ls no_line j h k ∙ ap canonical (sym (slot_of-line stated_slot ls no_line j h k));
  eight = λ j h k. ap (λ (s : Slot). length s.words) (slot_of-line stated_slot ls no_line j h k) ∙ padded_eight (get_or ls j no_line).words;
}

-- what the tests of the pattern that is held come to is what 1 to 5 come to on the lines as they stand
pub limits_first : (least most : ℕ) (ls : List SlotLine) → pattern_verdict (shown_pattern least most ls) ≡ limits_verdict (stated_pattern least most ls)
limits_first least most ls = verdict_held (shown-holds least most ls)
