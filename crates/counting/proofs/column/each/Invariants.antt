use Rattle.counting.specs.Steps.Plans.{Plan, plan_pattern, plan_view}
use Rattle.counting.proofs.Columns.{Filling}
use Rattle.counting.proofs.column.each.Given as goal

abbrev pub invariant-loop-i : goal.invariant-loop-i
invariant-loop-i l = (g : Plan l.tables) → Filling (plan_pattern g) (plan_view g) l.initial.column l.i l.column
