-- The byte is written after the number.
use Rattle.basics.specs.Laws.Writing.{writes_of, writes_then}
use Rattle.basics.proofs.bytes.put_value.Goals as goal

pub returns : goal.returns
returns c =
    let number = c.put_number-next.ensures in
    let byte = c.put_byte.ensures in
    let w = writes_then (writes_of (number.value, number.out_after)) (writes_of (byte.value, byte.out_after)) in
    record { value = w.end; out_after = w.contents }
