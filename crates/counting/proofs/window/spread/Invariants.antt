use Rattle.counting.specs.Steps.Rows.{onward}
use Rattle.counting.proofs.Loops.{Writing}
use Rattle.counting.proofs.window.spread.Given as goal

abbrev pub invariant-loop-i : goal.invariant-loop-i
invariant-loop-i l = Writing l.summed (onward l.fits l.fn.gap.low l.fn.gap.high l.m l.fn.row) l.fn.row l.i l.sum l.row

abbrev pub invariant-loop-k : goal.invariant-loop-k
invariant-loop-k l = Writing l.summed (onward l.fits l.fn.gap.low l.fn.gap.high l.m l.fn.row) l.fn.row l.k l.sum l.row
