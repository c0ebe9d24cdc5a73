use Rattle.std.proofs.Common.{◌-◌}
use Rattle.matching.specs.Occurrence.{at}
use Rattle.matching.specs.Steps.Sides.{sight}
use Rattle.matching.proofs.Writing.{Writing}
use Rattle.matching.proofs.lists.write_rows.Given as goal

abbrev pub invariant-loop-row : goal.invariant-loop-row
invariant-loop-row l = Writing l.side.pattern.now (sight l.side) l.initial.list l.list l.row l.k

abbrev pub decreases-loop-row : goal.decreases-loop-row
decreases-loop-row l = 20001 - at l.row 0
