-- The i-th word is the i-th number.
use Rattle.std.proofs.Common.{rules, ◌≡◌, map, [], get_or, ◌∙◌}
use Rattle.format.specs.Bytes.{parts, value}
use Rattle.format.proofs.SlotSteps.{padded_from, word_at}
use Rattle.format.proofs.words.first_numbers.Goals as goal

pub returns : goal.returns
returns c =
    let h = c.from_fn.ensures.items in
    padded_from c.from_fn.result (map value (parts c.args.s.now 44)) h.long
    (λ i l. let k : get_or c.from_fn.result i 0 ≡ value (get_or (parts c.args.s.now 44) i []) = search rules in k ∙ word_at c.args.s.now i)
