-- The line of values is written after the names.
use Rattle.std.proofs.Common.{[], ◌∷◌}
use Rattle.basics.specs.Laws.Writing.{writes_of}
use Rattle.report.specs.Lines.{values, refusal_names}
use Rattle.report.proofs.Writers.{writes_line}
use Rattle.report.proofs.lines.put_refusal.Goals as goal

pub returns : goal.returns
returns c =
    let names = c.put_bytes-next.ensures in
    rw (← c.number.ensures, ← c.from.ensures, ← c.place.ensures) (writes_line refusal_names (values (c.from.result ∷ c.place.result ∷ []) ∷ []) (writes_of (names.value, names.out_after)) c.put_pair.ensures)
