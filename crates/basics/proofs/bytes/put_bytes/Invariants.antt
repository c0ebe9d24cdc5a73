-- The bytes passed are written.
use Rattle.std.proofs.Common.{take}
use Rattle.basics.specs.Writing.{Writes}
use Rattle.basics.proofs.bytes.put_bytes.Given as goal

abbrev pub invariant-loop-byte : goal.invariant-loop-byte
invariant-loop-byte l = Writes (take l.byte-index l.bytes) l.initial.out l.initial.next l.out l.next
