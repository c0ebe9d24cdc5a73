use Rattle.counting.specs.Steps.Plans.{Plan, plan_pattern, plan_view}
use Rattle.counting.proofs.Tabling.{Tabling}
use Rattle.counting.proofs.reach.reach_all.Given as goal

abbrev pub invariant-loop-j : goal.invariant-loop-j
invariant-loop-j l = (g : Plan l.tables) → Tabling (plan_pattern g) (plan_view g) l.w l.j l.reach l.n l.next
