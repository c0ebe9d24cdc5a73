-- The line that begins at a place: where its bytes end, and where the next line begins.
use Rattle.std.specs.Prelude.{ℕ, ◌+◌, List, length, drop, ltb}
use Rattle.basics.specs.Choice.{pick}
use Rattle.format.specs.Bytes.{cut}
use Rattle.format.specs.declared.reader.Line.{Line}

-- the place of the next byte 10, or the length
abbrev pub line_end : List ℕ → ℕ → ℕ
line_end s at = at + cut (drop at s) 10

-- a line that is not closed has no next
unfoldable pub line_at : List ℕ → ℕ → Line
line_at s at = record { end = line_end s at; next = pick (ltb (line_end s at) (length s)) (line_end s at + 1) (line_end s at) }
