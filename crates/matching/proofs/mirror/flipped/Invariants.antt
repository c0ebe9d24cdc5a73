-- `flipped` meets its contract. The invariant: the first j places are those of the row from its end.
use Rattle.matching.proofs.Turning.{Flipping}
use Rattle.matching.proofs.mirror.flipped.Given as goal

abbrev pub invariant-loop-j : goal.invariant-loop-j
invariant-loop-j l = Flipping l.m l.n l.row l.p l.j
