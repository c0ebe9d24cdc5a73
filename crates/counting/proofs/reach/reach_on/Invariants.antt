use Rattle.std.proofs.Common.{◌≤◌, length}
use Rattle.counting.specs.Steps.Tables.{leads}
use Rattle.counting.proofs.Reaching.{Reaching}
use Rattle.counting.proofs.reach.reach_on.Given as goal

abbrev pub invariant-loop-k : goal.invariant-loop-k
invariant-loop-k l = record {
  past : l.inner ≤ l.k;
  reaching : Reaching (leads l.fits l.low l.high l.m l.base l.initial.next) (length l.fits) l.base l.initial.next l.k l.q l.next;
}

abbrev pub invariant-loop-i : goal.invariant-loop-i
invariant-loop-i l = Reaching (leads l.fits l.low l.high l.m l.base l.fn.next) (length l.fits) l.base l.fn.next l.i l.q l.next
