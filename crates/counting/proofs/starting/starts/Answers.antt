-- `counting::starting::starts` meets its contract: the numbers whose halves are written are the column.
use Rattle.std.proofs.Common.{◌≡◌, Ok, length, sym, ◌∙◌, arith, length-take}
use Rattle.std.proofs.lemmas.Result.{err_from_is_err_and}
use Rattle.pattern.specs.Tests.{input_verdict}
use Rattle.matching.specs.Occurrence.{plain}
use Rattle.counting.specs.Steps.Inputs.{Input}
use Rattle.counting.specs.Laws.Inputs.{passed}
use Rattle.counting.proofs.Columns.{blank_new}
use Rattle.counting.proofs.Answers.{starts_never_nine, starts_refused, starts_fine, starts_list}
use Rattle.counting.proofs.starting.starts.Goals as goal
use Rattle.counting.proofs.starting.starts.Goals.{In_ok-check_with}

-- ---- what is known once the tests up to 6 have passed

accepted : (c : In_ok-check_with) → input_verdict c.args.pattern (length c.args.text.now) ≡ Ok tt
accepted c = sym c.check_with.ensures ∙ c.in_ok-check_with.was

ok : (c : In_ok-check_with) → Input c.args.pattern (plain c.args.pattern c.args.text.now)
ok c = passed c.args.text.now (accepted c)

-- ---- what is asked

pub returns-in_err-check_with-clause-not_nine : goal.returns-in_err-check_with-clause-not_nine
returns-in_err-check_with-clause-not_nine c =
    let a = c.args in
    let p = err_from_is_err_and c.from_residual.result c.from_residual.ensures.1 in
    starts_never_nine a.pattern a.text.now a.list.now (rw (p.1, p.2) (starts_refused a.pattern a.text.now a.list.now (sym c.check_with.ensures ∙ c.in_err-check_with.was)))

pub fill_text-requires-clause-input : goal.fill_text-requires-clause-input
fill_text-requires-clause-input c = ok (goal.at.fill_text-requires-clause-input c).In_ok-check_with

pub fill_text-requires-clause-blank : goal.fill_text-requires-clause-blank
fill_text-requires-clause-blank c = blank_new 20001 _ (omega (arith, (ok (goal.at.fill_text-requires-clause-blank c).In_ok-check_with).short))

pub slice_bounds-column-end : goal.slice_bounds-column-end
slice_bounds-column-end c = omega (arith, c.fill_text.auto.column, (ok (goal.at.slice_bounds-column-end c).In_ok-check_with).short)

pub slice_bounds-put_halves-end : goal.slice_bounds-put_halves-end
slice_bounds-put_halves-end c =
    let short = (ok (goal.at.slice_bounds-put_halves-end c).In_ok-check_with).short in
    omega (arith, c.fill_text.auto.column, length-take (length c.args.text.now) c.fill_text.new.column)

pub returns-clause-value : goal.returns-clause-value
returns-clause-value c =
    let a = c.args in
    starts_fine a.pattern a.text.now a.list.now (accepted (goal.at.returns-clause-value c).In_ok-check_with) (omega arith)

pub returns-clause-list_after : goal.returns-clause-list_after
returns-clause-list_after c =
    let a = c.args in
    let at = (goal.at.returns-clause-list_after c).In_ok-check_with in
    starts_list a.pattern a.text.now a.list.now (accepted at) (omega arith) c.fill_text.ensures (omega (arith, c.fill_text.auto.column, (ok at).short)) c.put_halves.ensures
