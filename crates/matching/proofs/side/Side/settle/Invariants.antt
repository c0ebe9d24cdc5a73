use Rattle.std.proofs.Common.{◌+◌, ◌*◌, ◌-◌}
use Rattle.matching.proofs.Settling.{Calm}
use Rattle.matching.specs.Steps.Sides.{sight}
use Rattle.matching.specs.Steps.Settling.{loose, slack}
use Rattle.matching.proofs.side.Side.settle.Given as goal

abbrev pub invariant-loop-calm : goal.invariant-loop-calm
invariant-loop-calm l = Calm l.self.pattern.now (loose (sight l.self)) l.initial.p l.p l.calm l.j

abbrev pub decreases-loop-calm : goal.decreases-loop-calm
decreases-loop-calm l = 17 * slack l.p + (l.m - l.calm)
