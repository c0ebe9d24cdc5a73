use Rattle.std.proofs.Common.{length}
use Rattle.counting.specs.Steps.Tables.{ends}
use Rattle.counting.proofs.Reaching.{Reaching}
use Rattle.counting.proofs.reach.reach_last.Given as goal

abbrev pub invariant-loop-i : goal.invariant-loop-i
invariant-loop-i l = Reaching (ends l.fits l.first l.from) (length l.fits) l.base l.initial.next l.i l.q l.next
