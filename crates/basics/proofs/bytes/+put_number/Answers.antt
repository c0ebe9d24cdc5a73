-- A number below ten is one digit; of any other the last digit is written after the others.
use Rattle.std.proofs.Common.{sym}
use Rattle.basics.specs.Laws.Digits.{one_digit, last_digit}
use Rattle.basics.specs.Laws.Writing.{writes_of, writes_same, writes_then}
use Rattle.basics.proofs.bytes.+put_number.Goals as goal

pub returns-then-n-lt10 : goal.returns-then-n-lt10
returns-then-n-lt10 t c = rw (one_digit c.args.n c.if-n-lt10.true) c.put_byte.ensures

pub returns : goal.returns
returns t c =
    let others = c.put_number-next.ensures in
    let last = c.put_byte-2.ensures in
    let digits = sym (last_digit c.args.n c.if-n-lt10.false c.ranges.n.fits) in
    let w = writes_same digits (writes_then (writes_of (others.value, others.out_after)) (writes_of (last.value, last.out_after))) in
    record { value = w.end; out_after = w.contents }
