-- A pattern file (document 01: frame sheet): the pattern it shows, or why it is refused.
use Rattle.std.specs.Prelude.{ℕ, ◌+◌, List, [], ◌∷◌, map, Bool, false, length, ltb, eqb, Ok, Err, Result}
use Rattle.pattern.specs.declared.slot.Slot.{Slot}
use Rattle.pattern.specs.declared.Pattern.{Pattern}
use Rattle.pattern.specs.declared.refusal.Refusal.{Refusal}
use Rattle.pattern.specs.declared.refusal.Refusal.TheVariants.{Names, Values, FileLength}
use Rattle.pattern.specs.Patterns.{slot_of, first_slots}
use Rattle.pattern.specs.Words.{canonical}
use Rattle.basics.specs.Choice.{pick}
use Rattle.pattern.specs.Tests.{Verdict, pattern_verdict}
use Rattle.format.specs.Bytes.{lines, ended, fields, field, value, is_number, all_numbers}
use Rattle.format.specs.Words.{marked, word_parts}
use Rattle.format.specs.Layouts.{Layout, scan}
use Rattle.format.specs.Names.{least_name, most_name, column, span_names, slot_names, columns_of}
use Rattle.format.specs.declared.names.Columns.{Columns}

-- ---- layout (10, 11)

-- the line has two numbers
abbrev pub span_values : List ℕ → Bool
span_values l = pick (eqb (length (fields l)) 2) (pick (is_number (field l 0)) (is_number (field l 1)) false) false

-- the line has two numbers and words
unfoldable pub slot_values : Columns → List ℕ → Bool
slot_values c l =
    pick (eqb (length (fields l)) 3)
    (pick (is_number (field l c.low))
    (pick (is_number (field l c.high)) (all_numbers (word_parts (field l c.words))) false)
    false)
    false

-- what a slot's line says
pub record SlotLine : Type 0 where
  pub low : ℕ
  pub high : ℕ
  pub excluding : Bool
  pub words : List ℕ

-- the numbers and the mark of a slot's line, by its columns
abbrev pub read_slot : Columns → List ℕ → SlotLine
read_slot c l = record {
  low = value (field l c.low);
  high = value (field l c.high);
  excluding = marked (field l c.words);
  words = map value (word_parts (field l c.words));
}

-- what stands on a file's lines: the span limits and the slots, or why the layout is refused
pub data PatternContents : Type 0 where
  refused : Refusal → PatternContents
  shown : ℕ → ℕ → List SlotLine → PatternContents

-- from the slots' lines ls on, whose layout was looked at: the first of them is line 4
abbrev pub from_slots : Layout → Columns → ℕ → ℕ → List (List ℕ) → PatternContents
from_slots (Err n) c least most ls = refused (Values (n + 4))
from_slots (Ok n) c least most ls = shown least most (map (read_slot c) ls)

-- from the line of the slots' names on, which is line 3; the last line is closed or not
abbrev pub from_slot_names : List (List ℕ) → ℕ → ℕ → Bool → PatternContents
from_slot_names [] least most closed = refused (Names 3)
from_slot_names (l ∷ ls) least most closed = pick (slot_names l) (from_slots (scan ls (slot_values (columns_of l)) closed 0) (columns_of l) least most ls) (refused (Names 3))

-- from the line of the span limits on, which is line 2, with the columns of `least` and `most`
abbrev pub from_values : List (List ℕ) → ℕ → ℕ → Bool → PatternContents
from_values [] i j closed = refused (Values 2)
from_values (l ∷ ls) i j closed = pick (span_values l) (from_slot_names ls (value (field l i)) (value (field l j)) closed) (refused (Values 2))

-- from the first line on
abbrev pub from_names : List (List ℕ) → Bool → PatternContents
from_names [] closed = refused (Names 1)
from_names (l ∷ ls) closed = pick (span_names l) (from_values ls (column (fields l) least_name) (column (fields l) most_name) closed) (refused (Names 1))

-- what stands in a file's bytes
unfoldable pub pattern_contents : List ℕ → PatternContents
pattern_contents s = from_names (lines s) (ended s 10)

-- ---- the pattern of these span limits and slots: their count is stated, the first sixteen are stored, and unused entries are 0

-- the slot of a line as it stands
abbrev pub stated_slot : SlotLine → Slot
stated_slot l = slot_of l.low l.high l.excluding l.words

-- and as a pattern holds it
abbrev pub made_slot : SlotLine → Slot
made_slot l = canonical (stated_slot l)

-- the pattern of all the lines
abbrev pub shown_pattern : ℕ → ℕ → List SlotLine → Pattern
shown_pattern least most ls = record { slots = first_slots (map made_slot ls); count = length ls; least = least; most = most }

-- ---- the answer: 12, layout, then the tests 1 to 5 (16 never applies)

-- the pattern where the tests come to the verdict
abbrev pub judged_by : Verdict → Pattern → Result Pattern Refusal
judged_by (Ok tt) f = Ok f
judged_by (Err why) f = Err why

-- the pattern by its tests
abbrev pub judged : Pattern → Result Pattern Refusal
judged f = judged_by (pattern_verdict f) f

-- the answer for what stands on the lines
abbrev pub pattern_answer : PatternContents → Result Pattern Refusal
pattern_answer (refused why) = Err why
pattern_answer (shown least most ls) = judged (shown_pattern least most ls)

-- the answer for a file's bytes
unfoldable pub pattern_read : List ℕ → Result Pattern Refusal
pattern_read s = pick (ltb 60000 (length s)) (Err FileLength) (pattern_answer (pattern_contents s))
