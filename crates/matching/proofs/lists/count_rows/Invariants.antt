use Rattle.std.proofs.Common.{◌-◌}
use Rattle.matching.specs.Occurrence.{at}
use Rattle.matching.specs.Steps.Sides.{sight}
use Rattle.matching.proofs.Finding.{Counted}
use Rattle.matching.proofs.lists.count_rows.Given as goal

abbrev pub invariant-loop-last : goal.invariant-loop-last
invariant-loop-last l = Counted l.side.pattern.now (sight l.side) l.last l.k

abbrev pub decreases-loop-last : goal.decreases-loop-last
decreases-loop-last l = 20001 - at l.last 0
