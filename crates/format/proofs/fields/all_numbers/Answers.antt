-- `split` yields the parts, and each is tested.
use Rattle.std.proofs.Common.{rules, List, ℕ, sym, ◌∙◌, ap, nat_eq}
use Rattle.std.specs.List.{list_all}
use Rattle.std.proofs.lemmas.Iterator.Search.{all_from_yields_List}
use Rattle.std.proofs.lemmas.Iterator.Splits.{YieldsList-from_slice_split}
use borrow.Author.Tests.{tests}
use Rattle.format.specs.Bytes.{is_number, parts}
use Rattle.format.proofs.ByteSteps.{numbers_all, parts_split}
use Rattle.format.proofs.fields.all_numbers.Goals as goal

pub returns : goal.returns
returns c =
    all_from_yields_List is_number _ _ c.all.result c.all.ensures.ran
    (YieldsList-from_slice_split _ (λ b. nat_eq b 44) c.args.s.now c.split.ensures.rest c.split.ensures.done c.split.ensures.closure (λ x b q k. search (rules, tests)))
    (λ x b q k. search (rules, tests))
    ∙ ap (λ (ps : List (List ℕ)). list_all is_number ps) (sym (parts_split c.args.s.now 44)) ∙ sym (numbers_all (parts c.args.s.now 44))
