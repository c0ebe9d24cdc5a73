-- Each test, and what `count_lines` ensures, tells the definition one step more.
use Rattle.std.proofs.Common.{rules, ◌≡◌, Ok, sym, ◌∙◌}
use borrow.Author.Tests.{tests}
use Rattle.format.specs.Patterns.{slot_values}
use Rattle.format.specs.Steps.ClosedLines.{laid}
use Rattle.format.specs.Steps.ValueLines.{slot_lines}
use Rattle.format.proofs.LineSteps.{laid_right}
use Rattle.format.proofs.PatternSteps.{slots-count, slots_right}
use Rattle.format.proofs.patterns.from_slot_names.Goals as goal
use Rattle.format.proofs.patterns.from_slot_names.Goals.{In_ok-count}

-- what is known past the slots' lines
counted : (c : In_ok-count) → laid 4 (slot_lines c.columns_of-c.result c.in_ok-names.rest.now) ≡ Ok c.in_ok-count.count
unfolding slot_lines
counted c = sym (c.in_ok-count.ensures.value (slot_values c.columns_of-c.result) (λ l b r. search (rules, tests)))

pub from_slots-requires : goal.from_slots-requires
from_slots-requires c =
    let k = counted (goal.at.from_slots-requires c).In_ok-count in
    slots-count c.columns_of-c.result c.in_ok-names.rest.now c.in_ok-count.count (laid_right 4 _ k)

pub returns : goal.returns
returns c =
    let k = counted (goal.at.returns c).In_ok-count in
    c.from_slots.ensures
    ∙ sym (slots_right c.args.least c.args.most (rw c.in_ok-names.ensures.ok_part at c.first_line.ensures) (sym c.slot_names.ensures ∙ c.if-not-slot_names.false) c.columns_of-c.result c.columns_of-c.ensures c.in_ok-count.count k)
