use Rattle.std.proofs.Common.{◌-◌}
use Rattle.matching.specs.Occurrence.{at}
use Rattle.matching.specs.Steps.Sides.{sight}
use Rattle.matching.proofs.Keeping.{Keeping}
use Rattle.matching.proofs.side.Side.keep.Given as goal

abbrev pub invariant-loop-to : goal.invariant-loop-to
invariant-loop-to l = Keeping l.self.pattern.now (sight l.self) l.initial.p l.p l.from

abbrev pub decreases-loop-to : goal.decreases-loop-to
decreases-loop-to l = 20001 - at l.p 0
