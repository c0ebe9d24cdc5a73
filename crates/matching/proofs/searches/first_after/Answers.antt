-- `matching::first_after` meets its contract: the tests' verdict decides, then the search's answer is the specification's.
use Rattle.std.proofs.Common.{sym, ◌∙◌, arith}
use Rattle.matching.proofs.Laws.Ready.{RowAccepted, row-accepted}
use Rattle.matching.proofs.Answering.{copied-spare, first_is}
use Rattle.matching.proofs.searches.first_after.Goals as goal
use Rattle.matching.proofs.searches.first_after.Goals.{In_ok-row_verdict}

accepted : (c : In_ok-row_verdict) → RowAccepted c.args.pattern c.args.text.now c.args.marks.now
accepted c = row-accepted (sym c.row_verdict.ensures ∙ c.in_ok-row_verdict.was)

pub invariant_of-side : goal.invariant_of-side
invariant_of-side c = record { ready = (accepted (goal.at.invariant_of-side c).In_ok-row_verdict).ready }

pub row_of-requires : goal.row_of-requires
row_of-requires c = let a = accepted (goal.at.row_of-requires c).In_ok-row_verdict in omega (arith, a.size, a.ready.few)

pub search-requires : goal.search-requires
search-requires c = copied-spare (accepted (goal.at.search-requires c).In_ok-row_verdict).size c.row_of.ensures

pub returns : goal.returns
returns c = simp (sym c.row_verdict.ensures ∙ c.in_ok-row_verdict.was, first_is (accepted (goal.at.returns c).In_ok-row_verdict) c.row_of.ensures c.search.result c.search.ensures)
