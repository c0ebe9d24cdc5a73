use Rattle.std.proofs.Common.{map, take}
use Rattle.basics.specs.Writing.{Writes}
use Rattle.format.specs.Shown.{digits, joined}
use Rattle.printing.proofs.writing.put_words.Given as goal

abbrev pub invariant-loop-i : goal.invariant-loop-i
invariant-loop-i l = Writes (joined (map digits (take l.i l.stated)) 44) l.initial.out l.initial.next l.out l.next
