-- The lines of values that stand in some bytes, as the readers look at them: their layout.
use Rattle.std.specs.Prelude.{ℕ, List}
use Rattle.format.specs.Bytes.{lines, ended, is_number}
use Rattle.format.specs.Layouts.{Layout, scan}
use Rattle.format.specs.Patterns.{slot_values}
use Rattle.format.specs.declared.names.Columns.{Columns}

-- the lines of words
unfoldable pub word_lines : List ℕ → Layout
word_lines s = scan (lines s) is_number (ended s 10) 0

-- the lines of the slots
unfoldable pub slot_lines : Columns → List ℕ → Layout
slot_lines c s = scan (lines s) (slot_values c) (ended s 10) 0
