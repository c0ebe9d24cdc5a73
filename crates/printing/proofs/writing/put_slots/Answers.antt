-- The first lines are written.
use Rattle.std.proofs.Common.{sym, ap, List, map, take, take_all}
use Rattle.basics.specs.Laws.Writing.{writes_none, writes_same, writes_then}
use Rattle.pattern.specs.declared.slot.Slot.{Slot}
use Rattle.format.specs.Shown.{closed, slot_text, paper_order}
use Rattle.printing.specs.Printed.{line_of}
use Rattle.printing.specs.Laws.Printing.{no_lines, lines_more}
use Rattle.printing.proofs.writing.put_slots.Goals as goal

pub loop-slot-init : goal.loop-slot-init
loop-slot-init c = writes_same (sym (no_lines c.args.pattern.slots)) writes_none

pub loop-slot-preserved : goal.loop-slot-preserved
loop-slot-preserved c = writes_same (sym (lines_more _ _ c.loop-slot-test.true)) (writes_then c.loop-slot.invariant c.put_slot-next.ensures)

pub returns : goal.returns
returns c =
    let ss = take c.args.pattern.count c.args.pattern.slots in
    writes_same (ap (λ (l : List Slot). closed (map (slot_text paper_order) (map line_of l))) (take_all c.loop-slot.slot-index ss c.loop-slot-test.false)) c.loop-slot.invariant
