use Rattle.std.proofs.Common.{◌-◌}
use Rattle.counting.specs.Steps.Plans.{Plan, plan_pattern, plan_view}
use Rattle.counting.proofs.Columns.{Filled}
use Rattle.counting.proofs.column.whole.Given as goal

abbrev pub invariant-loop-i : goal.invariant-loop-i
invariant-loop-i l = (g : Plan l.tables) → Filled (plan_pattern g) (plan_view g) l.initial.column l.i l.column

abbrev pub decreases-loop-i : goal.decreases-loop-i
decreases-loop-i l = l.tables.places - l.i
