-- The count is written before the two halves.
use Rattle.std.proofs.Common.{[], ◌∷◌}
use Rattle.basics.specs.Laws.Writing.{writes_of}
use Rattle.report.proofs.Writers.{writes_value}
use Rattle.report.proofs.lines.put_counts.Goals as goal

pub returns : goal.returns
returns c =
    let a = c.args in
    let count = c.put_value-next.ensures in
    let halves = c.halves-high in
    rw (← halves.ensures.high, ← halves.ensures.low)
    (writes_value a.count halves.result.0 (halves.result.1 ∷ []) (writes_of (count.value, count.out_after)) c.put_pair.ensures)
