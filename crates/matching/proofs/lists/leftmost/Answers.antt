-- `matching::leftmost` meets its contract: `fill` forwards; demand 3 holds of every accepted input.
use Rattle.matching.proofs.Listing.{best}
use Rattle.matching.proofs.lists.leftmost.Goals as goal

pub returns-clause-best : goal.returns-clause-best
returns-clause-best c = best c.args.pattern c.args.text.now
