use Rattle.matching.proofs.Settling.{Starting}
use Rattle.matching.proofs.search.start.Given as goal

abbrev pub invariant-loop-x : goal.invariant-loop-x
invariant-loop-x l = Starting l.m l.initial.x-items l.x-items l.x-index
