-- The fields before the first that is the name are counted.
use Rattle.std.proofs.Common.{rules, List, ℕ, Bool, not, sym, ◌∙◌, ap, nat_eq}
use Rattle.std.specs.Cmp.Lexicographic.{pointwise}
use Rattle.std.specs.List.{prefix_len}
use Rattle.std.proofs.lemmas.Iterator.Consumers.{count_from_yields_List}
use Rattle.std.proofs.lemmas.Iterator.Search.{YieldsList-from_take_while}
use Rattle.std.proofs.lemmas.Iterator.Splits.{YieldsList-from_slice_split}
use Rattle.std.proofs.lemmas.Iterator.Consumers.{YieldsList-at}
use Rattle.std.proofs.lemmas.List.Folds.{length-prefix_len}
use borrow.Author.Tests.{tests}
use Rattle.format.specs.Bytes.{fields}
use Rattle.format.proofs.ByteSteps.{column_prefix, parts_split}
use Rattle.format.proofs.fields.column.Goals as goal

pub returns : goal.returns
returns c =
    let test : List ℕ → Bool = λ f. not (pointwise nat_eq f c.args.name.now) in
    count_from_yields_List c.take_while.result _ c.count.ensures.ran
    (YieldsList-from_take_while _ test
    (YieldsList-at c.take_while.ensures.source (YieldsList-from_slice_split _ (λ b. nat_eq b 32) c.args.s.now c.split.ensures.rest c.split.ensures.done c.split.ensures.closure (λ x b q k. search (rules, tests))))
    c.take_while.ensures.closure c.take_while.ensures.done (λ x b q k. search (rules, tests)))
    ∙ length-prefix_len test _ ∙ ap (λ (ps : List (List ℕ)). prefix_len test ps) (sym (parts_split c.args.s.now 32)) ∙ sym (column_prefix (fields c.args.s.now) c.args.name.now)
