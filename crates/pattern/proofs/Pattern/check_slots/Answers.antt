use Rattle.std.proofs.Common.{arith, rules, sym, ap, ◌≡◌, ◌+◌, ◌∙◌, Ok, Err}
use Rattle.pattern.specs.Tests.{slots_verdict}
use Rattle.pattern.specs.Laws.Verdicts.{slots_refused, slots_on, slots_end}
use Rattle.pattern.proofs.Pattern.check_slots.Goals as goal

pub returns-in_err-test : goal.returns-in_err-test
returns-in_err-test g c =
    let told = g.T.SlotTest.told c.args.test.now in
    let refused : told (c.loop-j.j + 1) _ ≡ Err c.in_err-test.field-0.0 = sym c.test.ensures ∙ c.in_err-test.was in
    let verdict = ap (slots_verdict told c.args.self.now 0) (sym c.min-count.ensures) ∙ c.loop-j.invariant ∙ slots_refused told c.args.self.now c.loop-j.j c.min-count.result c.loop-j-test.true refused in
    rw verdict (search rules)

pub loop-j-preserved : goal.loop-j-preserved
loop-j-preserved g c =
    let told = g.T.SlotTest.told c.args.test.now in
    let accepted : told (c.loop-j.j + 1) _ ≡ Ok tt = sym c.test.ensures ∙ c.in_ok-test.was in
    c.loop-j.invariant ∙ slots_on told c.args.self.now c.loop-j.j c.min-count.result c.loop-j-test.true accepted

pub returns : goal.returns
returns g c =
    let told = g.T.SlotTest.told c.args.test.now in
    let verdict = ap (slots_verdict told c.args.self.now 0) (sym c.min-count.ensures) ∙ c.loop-j.invariant ∙ slots_end told c.args.self.now c.loop-j.j c.min-count.result (omega (arith, c.loop-j-test.false)) in
    sym verdict
