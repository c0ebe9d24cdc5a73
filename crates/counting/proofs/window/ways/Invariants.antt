use Rattle.counting.specs.Steps.Plans.{Plan, plan_pattern, plan_view}
use Rattle.counting.proofs.Counting.{Counting}
use Rattle.counting.proofs.window.ways.Given as goal

abbrev pub invariant-loop-j : goal.invariant-loop-j
invariant-loop-j l = (g : Plan l.tables) → Counting (plan_pattern g) (plan_view g) l.w l.j l.reach l.n l.row
