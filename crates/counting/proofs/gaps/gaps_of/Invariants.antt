-- `counting::gaps::gaps_of` meets its contract. The invariant: the gaps of the slots passed stand in the array.
use Rattle.counting.proofs.Distances.{Gapping}
use Rattle.counting.proofs.gaps.gaps_of.Given as goal

abbrev pub invariant-loop-j : goal.invariant-loop-j
invariant-loop-j l = Gapping l.pattern l.j l.gaps
