-- `split` yields the parts.
use Rattle.std.proofs.Common.{rules, List, ℕ, length, sym, ◌∙◌, ap, nat_eq}
use Rattle.std.proofs.lemmas.Iterator.Consumers.{count_from_yields_List}
use Rattle.std.proofs.lemmas.Iterator.Splits.{YieldsList-from_slice_split}
use borrow.Author.Tests.{tests}
use Rattle.format.proofs.ByteSteps.{parts_split}
use Rattle.format.proofs.fields.count.Goals as goal

pub returns : goal.returns
returns c =
    count_from_yields_List c.split.result _ c.count.ensures.ran
    (YieldsList-from_slice_split _ (λ b. nat_eq b c.args.sep) c.args.s.now c.split.ensures.rest c.split.ensures.done c.split.ensures.closure (λ x b q k. search (rules, tests)))
    ∙ ap (λ (ps : List (List ℕ)). length ps) (sym (parts_split c.args.s.now c.args.sep))
