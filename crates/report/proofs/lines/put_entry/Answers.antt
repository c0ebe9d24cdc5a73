-- Row and slot are written before the two places.
use Rattle.std.proofs.Common.{[], ◌∷◌}
use Rattle.basics.specs.Laws.Writing.{writes_of}
use Rattle.report.proofs.Writers.{writes_value}
use Rattle.report.proofs.lines.put_entry.Goals as goal

pub returns : goal.returns
returns c =
    let a = c.args in
    let row = c.put_value-second.ensures in
    let slot = c.put_value-third.ensures in
    writes_value a.row a.slot (a.front ∷ a.back ∷ []) (writes_of (row.value, row.out_after)) (writes_value a.slot a.front (a.back ∷ []) (writes_of (slot.value, slot.out_after)) c.put_pair.ensures)
