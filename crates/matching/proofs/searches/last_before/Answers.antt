-- `matching::last_before` meets its contract: the tests' verdict decides, then the search's answer is the specification's.
use Rattle.std.proofs.Common.{sym, ◌∙◌, arith}
use Rattle.matching.proofs.Laws.Ready.{RowAccepted, row-accepted}
use Rattle.matching.proofs.Answering.{last_is}
use Rattle.matching.proofs.searches.last_before.Goals as goal
use Rattle.matching.proofs.searches.last_before.Goals.{In_ok-row_verdict}

accepted : (c : In_ok-row_verdict) → RowAccepted c.args.pattern c.args.text.now c.args.marks.now
accepted c = row-accepted (sym c.row_verdict.ensures ∙ c.in_ok-row_verdict.was)

pub row_of-requires : goal.row_of-requires
row_of-requires c = let a = accepted (goal.at.row_of-requires c).In_ok-row_verdict in omega (arith, a.size, a.ready.few)

pub search_back-requires : goal.search_back-requires
search_back-requires c = (accepted (goal.at.search_back-requires c).In_ok-row_verdict).ready

pub returns : goal.returns
returns c = simp (sym c.row_verdict.ensures ∙ c.in_ok-row_verdict.was, last_is (accepted (goal.at.returns c).In_ok-row_verdict) c.row_of.ensures c.search_back.result c.search_back.ensures)
