use Rattle.counting.specs.Steps.Rows.{ending}
use Rattle.counting.proofs.Loops.{Writing}
use Rattle.counting.proofs.window.ends.Given as goal

abbrev pub invariant-loop-i : goal.invariant-loop-i
invariant-loop-i l = Writing l.summed (ending l.fits l.first l.from) l.initial.row l.i l.count l.row
