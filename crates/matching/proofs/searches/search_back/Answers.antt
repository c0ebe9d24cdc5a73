-- `search_back` meets its contract: the earliest in the mirrored text is the latest here.
use Rattle.matching.proofs.Laws.Turning.{turned_facing}
use Rattle.matching.proofs.Answering.{back_found, back_none}
use Rattle.matching.proofs.searches.search_back.Goals as goal

pub returns-in_err-row : goal.returns-in_err-row
returns-in_err-row c = rw c.from_residual.ensures (back_none (turned_facing c.turned-g.ensures c.args.text.now) c.requires c.flipped-far.ensures (rw c.in_err-row.was at c.search.ensures))

pub returns : goal.returns
returns c = back_found (turned_facing c.turned-g.ensures c.args.text.now) c.requires c.flipped-far.ensures (rw c.in_ok-row.was at c.search.ensures) c.flipped.ensures
