-- `split` yields the parts, and `nth` takes one of them.
use Rattle.std.proofs.Common.{rules, List, [], ℕ, get_or, unwrap_or, sym, ◌∙◌, ap, nat_eq}
use Rattle.std.proofs.lemmas.Iterator.Consumers.{nth_from_yields_List}
use Rattle.std.proofs.lemmas.Iterator.Splits.{YieldsList-from_slice_split}
use Rattle.std.proofs.lemmas.Option.{unwrap_or-slice_get}
use borrow.Author.Tests.{tests}
use Rattle.format.proofs.ByteSteps.{parts_split, shown_or}
use Rattle.format.proofs.fields.part.Goals as goal

pub returns : goal.returns
returns c =
    let e = nth_from_yields_List c.nth.result _ c.args.k c.nth.ensures.ran
    (YieldsList-from_slice_split _ (λ b. nat_eq b c.args.sep) c.args.s.now c.split.ensures.rest c.split.ensures.done c.split.ensures.closure (λ x b q k. search (rules, tests))) in
    ap (λ r. r.now) c.unwrap_or.ensures ∙ shown_or c.nth.result _ ∙ ap (λ o. unwrap_or o []) e ∙ unwrap_or-slice_get _ c.args.k [] ∙ ap (λ (ps : List (List ℕ)). get_or ps c.args.k []) (sym (parts_split c.args.s.now c.args.sep))
