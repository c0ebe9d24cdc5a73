use Rattle.std.proofs.Common.{length}
use Rattle.counting.specs.Steps.Listings.{Put}
use Rattle.counting.specs.Steps.Plans.{plan_pattern, plan_view}
use Rattle.counting.proofs.Listings.{Listing}
use Rattle.counting.proofs.listing.put_each.Given as goal

abbrev pub invariant-loop-i : goal.invariant-loop-i
invariant-loop-i l = (g : Put l.tables (length l.initial.list)) → Listing (plan_pattern g.plan) (plan_view g.plan) l.initial.list l.i l.rows l.list
