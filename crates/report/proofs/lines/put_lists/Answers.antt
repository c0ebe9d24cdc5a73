-- Names, values and table are written one after the other.
use Rattle.std.proofs.Common.{[], ◌∷◌, length}
use Rattle.basics.specs.Laws.Writing.{writes_of}
use Rattle.counting.specs.Halves.{high, low}
use Rattle.report.specs.Lines.{values, count_names, table_names, entry_lines}
use Rattle.report.proofs.Writers.{writes_line, writes_lines}
use Rattle.report.proofs.lines.put_lists.Goals as goal

pub returns : goal.returns
returns c =
    let a = c.args in
    let first = c.put_bytes-first.ensures in
    let third = c.put_bytes-third.ensures in
    let table = entry_lines a.lists.m a.lists.front.now a.lists.back.now (length a.lists.front.now) in
    let head = values (a.count ∷ high a.total ∷ low a.total ∷ []) in
    let rest = writes_line table_names table (writes_of (third.value, third.out_after)) c.put_table.ensures in
    writes_line count_names (head ∷ table_names ∷ table) (writes_of (first.value, first.out_after)) (writes_lines (head ∷ []) (table_names ∷ table) c.put_counts-second.ensures rest)
