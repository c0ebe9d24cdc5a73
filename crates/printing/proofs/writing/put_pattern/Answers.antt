-- The file's parts are written one after the other.
use Rattle.std.proofs.Common.{rules, ◌≤◌}
use Rattle.basics.specs.Laws.Writing.{writes_of, writes_then}
use Rattle.format.specs.Shown.{joined}
use Rattle.printing.specs.Laws.Printing.{digits-written, file-parts}
use Rattle.printing.proofs.writing.put_pattern.Goals as goal

pub returns : goal.returns
unfolding joined
returns c =
    let f = c.args.pattern in
    let least : f.least ≤ 65535 = search rules in
    let most : f.most ≤ 65535 = search rules in
    let line = c.put_bytes-values.ensures in
    let first = rw c.from.ensures at c.put_value-most.ensures in
    let second = rw c.from-2.ensures at c.put_value-names.ensures in
    let names = c.put_bytes-slots.ensures in
    let values = writes_then (writes_then (writes_of (line.value, line.out_after)) (writes_of (first.value, first.out_after))) (writes_of (second.value, second.out_after)) in
    rw (file-parts f, ← digits-written f.least least, ← digits-written f.most most) (writes_then (writes_then values (writes_of (names.value, names.out_after))) c.put_slots.ensures)
