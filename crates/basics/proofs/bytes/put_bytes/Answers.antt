-- One byte more is written after those that were passed.
use Rattle.basics.specs.Laws.Writing.{writes_of, writes_next}
use Rattle.basics.proofs.bytes.put_bytes.Goals as goal

pub loop-byte-preserved : goal.loop-byte-preserved
loop-byte-preserved c =
    let byte = c.put_byte-next.ensures in
    writes_next c.args.bytes.now c.loop-byte.byte-index c.loop-byte-test.true c.loop-byte.invariant (writes_of (byte.value, byte.out_after))
