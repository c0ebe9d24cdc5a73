-- `position` finds the first place at which `cut` cuts.
use Rattle.std.proofs.Common.{rules, drop, length-drop, nat_eq, arith, sym, ◌∙◌}
use Rattle.std.proofs.lemmas.Iterator.{YieldsList-from_slice}
use Rattle.std.proofs.lemmas.Iterator.Search.{position_from_yields_List}
use borrow.Author.Tests.{tests}
use Rattle.basics.specs.Laws.Lending.{tail_is}
use Rattle.format.proofs.ByteSteps.{found_none, found_some}
use Rattle.format.proofs.bytes.find.Goals as goal

pub returns-in_err-k : goal.returns-in_err-k
returns-in_err-k c =
    let e = position_from_yields_List (λ b. nat_eq b c.args.sep) _ _ c.position.result c.position.ensures.ran (YieldsList-from_slice (drop c.args.at c.args.s.now) (c.iter.ensures.rest ∙ tail_is c.args.s.now c.args.at c.requires)) (λ x b q k. search (rules, tests)) in
    let f = found_none (drop c.args.at c.args.s.now) c.args.sep (sym c.in_err-k.was ∙ e) in
    rw c.from_residual.ensures (omega (arith, f, length-drop c.args.at c.args.s.now))

pub returns : goal.returns
returns c =
    let e = position_from_yields_List (λ b. nat_eq b c.args.sep) _ _ c.position.result c.position.ensures.ran (YieldsList-from_slice (drop c.args.at c.args.s.now) (c.iter.ensures.rest ∙ tail_is c.args.s.now c.args.at c.requires)) (λ x b q k. search (rules, tests)) in
    let f = found_some (drop c.args.at c.args.s.now) c.args.sep c.in_ok-k.k (sym c.in_ok-k.was ∙ e) in
    (omega (arith, f.0), omega (arith, f.1, length-drop c.args.at c.args.s.now))
