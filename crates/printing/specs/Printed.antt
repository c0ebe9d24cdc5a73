-- A pattern as a file (document 02, Job 3), and what writing it gives.
use Rattle.std.specs.Prelude.{ℕ, List, map, length, take, ltb, Ok, Err, Result}
use Rattle.basics.specs.Choice.{pick}
use Rattle.basics.specs.Written.{over}
use Rattle.pattern.specs.declared.slot.Slot.{Slot}
use Rattle.pattern.specs.declared.Pattern.{Pattern}
use Rattle.pattern.specs.declared.refusal.Refusal.{Refusal}
use Rattle.pattern.specs.declared.refusal.Refusal.TheVariants.{ListLength}
use Rattle.pattern.specs.Patterns.{stated}
use Rattle.pattern.specs.Tests.{Verdict, pattern_verdict}
use Rattle.format.specs.Patterns.{SlotLine}
use Rattle.format.specs.Shown.{closed, file_lines, paper_order}

-- ---- the file

-- the line as which a slot is printed
abbrev pub line_of : Slot → SlotLine
line_of s = record { low = s.low; high = s.high; excluding = s.excluding; words = stated s }

-- the lines of the stated slots
abbrev pub lines_of : Pattern → List SlotLine
lines_of f = map line_of (take f.count f.slots)

-- the pattern's file, with `least` before `most`
unfoldable pub pattern_text : Pattern → List ℕ
pattern_text f = closed (file_lines 0 paper_order f.least f.most (lines_of f))

-- the most bytes of an accepted pattern's file
abbrev pub most_printed : ℕ
most_printed = 916

-- ---- the answer: the tests 1 to 5 and 16, then 8 where the list is too short for the file

-- the answer for a file of `size` bytes and a list of `room` entries, where the tests come to the verdict
abbrev pub printed_by : Verdict → ℕ → ℕ → Result ℕ Refusal
printed_by (Err why) size room = Err why
printed_by (Ok tt) size room = pick (ltb room size) (Err (ListLength 0)) (Ok size)

-- how many bytes are written, or why none
abbrev pub pattern_printed : Pattern → ℕ → Result ℕ Refusal
pattern_printed f room = printed_by (pattern_verdict f) (length (pattern_text f)) room

-- what the list holds by the answer: the file over its start, or all of it as it was
abbrev pub written_by : Result ℕ Refusal → List ℕ → List ℕ → List ℕ
written_by (Err why) text out = out
written_by (Ok n) text out = over out text

-- what the list holds after the call
abbrev pub pattern_written : Pattern → List ℕ → List ℕ
pattern_written f out = written_by (pattern_printed f (length out)) (pattern_text f) out
