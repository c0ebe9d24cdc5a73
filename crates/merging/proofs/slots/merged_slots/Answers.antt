-- `merging::slots::merged_slots` meets its contract. The invariant: filling the slots so far with the merged ones from j on gives what filling
-- unused slots with all of them gives.
use Rattle.std.proofs.Common.{◌∙◌, length-set}
use Rattle.pattern.specs.Laws.Filling.{filled_next}
use Rattle.merging.specs.Laws.Slots.{slots_next}
use Rattle.merging.proofs.slots.merged_slots.Goals as goal

pub loop-j-preserved : goal.loop-j-preserved
loop-j-preserved c =
    let f = c.args.first.now in
    let l = c.loop-j in
    let next = slots_next f c.args.second.now l.j f.count c.loop-j-test.true in
    (simp length-set l.invariant.0, l.invariant.1 ∙ filled_next l.slots _ _ _ l.j c.merged_slot.result next c.merged_slot.ensures)
