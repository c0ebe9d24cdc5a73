-- `need` meets its contract: what its own place and its neighbours allow is what the other slots allow.
use Rattle.matching.proofs.Raising.{needed}
use Rattle.matching.proofs.side.Side.need.Goals as goal

pub returns : goal.returns
returns c = rw (c.max-2.ensures, c.max.ensures) (needed c.behind-low.ensures c.ahead-high.ensures)
