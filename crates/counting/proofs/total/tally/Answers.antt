-- `counting::total::tally` meets its contract: the sum of the column is the number, and its halves are the answer.
use Rattle.std.proofs.Common.{◌≡◌, Ok, length, sym, ◌∙◌, arith, length-take}
use Rattle.std.proofs.lemmas.Result.{err_from_is_err_and}
use Rattle.pattern.specs.Tests.{input_verdict}
use Rattle.matching.specs.Occurrence.{plain}
use Rattle.counting.specs.Steps.Inputs.{Input}
use Rattle.counting.specs.Laws.Inputs.{passed}
use Rattle.counting.proofs.Columns.{blank_new, column-total, column_fits}
use Rattle.counting.proofs.Answers.{tally_never_nine, tally_refused, tally_fine}
use Rattle.counting.proofs.total.tally.Goals as goal
use Rattle.counting.proofs.total.tally.Goals.{In_ok-check_with}

-- ---- what is known once the tests up to 6 have passed

accepted : (c : In_ok-check_with) → input_verdict c.args.pattern (length c.args.text.now) ≡ Ok tt
accepted c = sym c.check_with.ensures ∙ c.in_ok-check_with.was

ok : (c : In_ok-check_with) → Input c.args.pattern (plain c.args.pattern c.args.text.now)
ok c = passed c.args.text.now (accepted c)

-- ---- what is asked

pub returns-in_err-check_with-clause-not_nine : goal.returns-in_err-check_with-clause-not_nine
returns-in_err-check_with-clause-not_nine c =
    let a = c.args in
    let p = err_from_is_err_and c.from_residual.result c.from_residual.ensures.1 in
    tally_never_nine a.pattern a.text.now (rw (p.1, p.2) (tally_refused a.pattern a.text.now (sym c.check_with.ensures ∙ c.in_err-check_with.was)))

pub fill_text-requires-clause-input : goal.fill_text-requires-clause-input
fill_text-requires-clause-input c = ok (goal.at.fill_text-requires-clause-input c).In_ok-check_with

pub fill_text-requires-clause-blank : goal.fill_text-requires-clause-blank
fill_text-requires-clause-blank c = blank_new 20001 _ (omega (arith, (ok (goal.at.fill_text-requires-clause-blank c).In_ok-check_with).short))

pub slice_bounds-column-end : goal.slice_bounds-column-end
slice_bounds-column-end c = omega (arith, c.fill_text.auto.column, (ok (goal.at.slice_bounds-column-end c).In_ok-check_with).short)

pub slice_bounds-sum_of-end : goal.slice_bounds-sum_of-end
slice_bounds-sum_of-end c =
    let short = (ok (goal.at.slice_bounds-sum_of-end c).In_ok-check_with).short in
    omega (arith, c.fill_text.auto.column, length-take (length c.args.text.now) c.fill_text.new.column)

pub sum_of-requires : goal.sum_of-requires
sum_of-requires c =
    let ok = ok (goal.at.sum_of-requires c).In_ok-check_with in
    column_fits ok (omega (arith, c.fill_text.auto.column, ok.short)) c.fill_text.ensures

pub returns-clause-value : goal.returns-clause-value
returns-clause-value c =
    let at = (goal.at.returns-clause-value c).In_ok-check_with in
    tally_fine c.args.pattern c.args.text.now (accepted at) (c.sum_of.ensures ∙ column-total (ok at) (omega (arith, c.fill_text.auto.column, (ok at).short)) c.fill_text.ensures)
