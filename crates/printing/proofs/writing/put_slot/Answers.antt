-- The line's parts are written one after the other.
use Rattle.std.proofs.Common.{rules, ◌≤◌}
use Rattle.basics.specs.Laws.Writing.{writes_of, writes_then}
use Rattle.printing.specs.Laws.Printing.{digits-written, slot-line}
use Rattle.printing.proofs.writing.put_slot.Goals as goal

pub returns : goal.returns
returns c =
    let s = c.args.slot in
    let low : s.low ≤ 65535 = search rules in
    let high : s.high ≤ 65535 = search rules in
    let first = rw c.from.ensures at c.put_value-high.ensures in
    let second = rw c.from-2.ensures at c.put_value-mark.ensures in
    let feed = c.put_byte.ensures in
    let gap = writes_then (writes_of (first.value, first.out_after)) (writes_of (second.value, second.out_after)) in
    let listed = writes_then (writes_then gap c.put_mark-listed.ensures) c.put_words-end.ensures in
    rw (slot-line s, ← digits-written s.low low, ← digits-written s.high high) (writes_then listed (writes_of (feed.value, feed.out_after)))
