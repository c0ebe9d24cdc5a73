-- The invariant: the scan of all lines is the scan of the rest, after n lines.
use Rattle.std.proofs.Common.{◌≡◌, length, refl, sym, ◌∙◌, ap, arith}
use borrow.Author.Tests.{eqb-false, eqb-true}
use Rattle.format.specs.Steps.ClosedLines.{laid}
use Rattle.format.proofs.LineSteps.{scan_end, scan_next, scan_open, scan-wrong}
use Rattle.format.proofs.lines.count_lines.Goals as goal

pub returns-in_default-clause-value : goal.returns-in_default-clause-value
returns-in_default-clause-value g c = λ ok told.
    let some : length c.loop-rest.rest.now ≡ 0 → ⊥ = eqb-false _ _ (sym c.is_empty.ensures ∙ c.loop-rest-test.true) in
    ap (laid c.args.first) (sym (c.loop-rest.invariant.same ok told ∙ scan_open ok c.loop-rest.n c.in_default.ensures (omega arith)))

pub returns-then-not-test-clause-value : goal.returns-then-not-test-clause-value
returns-then-not-test-clause-value g c = λ ok told.
    let q = told c.in-Some.line.now c.test.result (record { shown = c.in-Some.line; shows = refl; says = record { met = c.test.ensures } }) in
    ap (laid c.args.first) (sym (c.loop-rest.invariant.same ok told ∙ scan-wrong ok c.loop-rest.n c.in-Some.ensures (sym q ∙ c.if-not-test.true)))

pub loop-rest-preserved : goal.loop-rest-preserved
loop-rest-preserved g c = record {
  few = let k = c.in-Some.ensures.shorter in omega arith;
  same = λ ok told.
      let q = told c.in-Some.line.now c.test.result (record { shown = c.in-Some.line; shows = refl; says = record { met = c.test.ensures } }) in
      c.loop-rest.invariant.same ok told ∙ scan_next ok c.loop-rest.n c.in-Some.ensures (sym q ∙ c.if-not-test.false);
}

pub returns-clause-value : goal.returns-clause-value
returns-clause-value g c = λ ok told.
    let none = eqb-true _ _ (sym c.is_empty.ensures ∙ c.loop-rest-test.false) in
    ap (laid c.args.first) (sym (c.loop-rest.invariant.same ok told ∙ scan_end c.loop-rest.rest.now ok c.loop-rest.n none))
