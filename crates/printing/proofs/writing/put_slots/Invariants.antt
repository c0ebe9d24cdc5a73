use Rattle.std.proofs.Common.{map, take}
use Rattle.basics.specs.Writing.{Writes}
use Rattle.format.specs.Shown.{closed, slot_text, paper_order}
use Rattle.printing.specs.Printed.{line_of}
use Rattle.printing.proofs.writing.put_slots.Given as goal

abbrev pub invariant-loop-slot : goal.invariant-loop-slot
invariant-loop-slot l = Writes (closed (map (slot_text paper_order) (map line_of (take l.slot-index l.slot-items)))) l.initial.out l.initial.next l.out l.next
