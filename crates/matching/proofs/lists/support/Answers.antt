-- `matching::support` meets its contract: the count is the length of the front list.
use Rattle.std.proofs.Common.{length, sym, ◌∙◌}
use Rattle.matching.proofs.Laws.Ready.{ready}
use Rattle.matching.proofs.Listing.{best}
use Rattle.matching.proofs.lists.support.Goals as goal

pub invariant_of-side : goal.invariant_of-side
invariant_of-side c = record { ready = ready c.args.pattern (length c.args.text.now) (sym c.check_with.ensures ∙ c.in_ok-check_with.was) }

pub returns-clause-best : goal.returns-clause-best
returns-clause-best c = best c.args.pattern c.args.text.now
