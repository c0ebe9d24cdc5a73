use Rattle.std.proofs.Common.{◌≡◌, ◌+◌, ◌-◌, ◌++◌, map, take, drop}
use Rattle.matching.proofs.lists.turn_back.Given as goal

abbrev pub invariant-loop-place : goal.invariant-loop-place
invariant-loop-place l = l.list ≡ map (λ p. l.n + 1 - p) (take l.place-index l.initial.list) ++ drop l.place-index l.initial.list
