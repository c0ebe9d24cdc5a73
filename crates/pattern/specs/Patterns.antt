-- Patterns and their slots (004, Definition 2; document 01: frames). A slot takes a set of words where the definition has one letter:
-- those that it lists or, excluding (document 02, Job 2), any but those.
use Rattle.std.specs.Prelude.{ℕ, ◌+◌, ◌-◌, List, [], ◌∷◌, ◌++◌, Bool, false, not, ◌||◌, length, get_or, take, set, replicate, eqb}
use Rattle.basics.specs.Choice.{pick}
use Rattle.pattern.specs.declared.slot.Slot.{Slot}
use Rattle.pattern.specs.declared.Pattern.{Pattern}

-- ---- what a pattern says

-- the word is in the list
unfoldable pub member : ℕ → List ℕ → Bool
member w [] = false
member w (x ∷ xs) = eqb x w || member w xs

-- the words that the slot states
abbrev pub stated : Slot → List ℕ
stated s = take s.count s.words

-- the slot lists the word
abbrev pub lists : Slot → ℕ → Bool
lists s w = member w (stated s)

-- whether a slot takes a word, by its mark and by whether it lists the word: a plain slot takes what it lists, an excluding slot what it
-- does not list, and never 0
abbrev pub taken : Bool → ℕ → Bool → Bool
taken excluding w listed = pick excluding (not (listed || eqb w 0)) listed

-- the slot takes the word
unfoldable pub takes : Slot → ℕ → Bool
takes s w = taken s.excluding w (lists s w)

-- what the logic has past the end of an array of slots
abbrev pub no_slot : Slot
no_slot = record { words = []; count = 0; low = 0; high = 0; excluding = false }

-- slot j, counted from 0
abbrev pub slot_at : Pattern → ℕ → Slot
slot_at f j = get_or f.slots j no_slot

-- ---- how a pattern is made

-- a slot that is not used: all its entries are 0, and it is not marked
abbrev pub empty_slot : Slot
empty_slot = record { words = replicate 8 0; count = 0; low = 0; high = 0; excluding = false }

-- a new pattern
abbrev pub empty_pattern : Pattern
empty_pattern = record { slots = replicate 16 empty_slot; count = 0; least = 1; most = 20000 }

-- the pattern with other span limits
abbrev pub with_span : Pattern → ℕ → ℕ → Pattern
with_span f least most = record { slots = f.slots; count = f.count; least = least; most = most }

-- the first eight of the words, and 0 in the entries that they leave
abbrev pub padded : List ℕ → List ℕ
padded ws = take 8 ws ++ replicate (8 - length ws) 0

-- the slot with these words
abbrev pub slot_of : ℕ → ℕ → Bool → List ℕ → Slot
slot_of low high excluding ws = record { words = padded ws; count = length ws; low = low; high = high; excluding = excluding }

-- the slot with another gap before it
abbrev pub with_gap : Slot → ℕ → ℕ → Slot
with_gap s low high = record { words = s.words; count = s.count; low = low; high = high; excluding = s.excluding }

-- the first sixteen of the slots, and unused ones after them
abbrev pub first_slots : List Slot → List Slot
first_slots ss = take 16 ss ++ replicate (16 - length ss) empty_slot

-- the pattern with the slot last
abbrev pub with_slot : Pattern → Slot → Pattern
with_slot f s = record { slots = set f.slots f.count s; count = f.count + 1; least = f.least; most = f.most }
