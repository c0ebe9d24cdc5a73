-- One value is written after the other.
use Rattle.std.proofs.Common.{[]}
use Rattle.basics.specs.Laws.Writing.{writes_of}
use Rattle.report.proofs.Writers.{writes_value, writes_last}
use Rattle.report.proofs.lines.put_pair.Goals as goal

pub returns : goal.returns
returns c =
    let a = c.args in
    let first = c.put_value-next.ensures in
    let second = c.put_value.ensures in
    writes_value a.a a.b [] (writes_of (first.value, first.out_after)) (writes_last a.b (writes_of (second.value, second.out_after)))
