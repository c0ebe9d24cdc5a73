-- `visit` meets its contract: the slot fits the first place from the least on that the other slots allow.
use Rattle.matching.proofs.Raising.{visited}
use Rattle.matching.proofs.side.Side.visit.Goals as goal

pub returns : goal.returns
returns c = visited c.need.ensures c.first.ensures
