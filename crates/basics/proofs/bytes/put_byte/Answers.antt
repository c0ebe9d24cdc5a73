-- Where there is room the byte is stored.
use Rattle.std.proofs.Common.{sym}
use Rattle.basics.specs.Laws.Writing.{put_at_byte}
use Rattle.basics.proofs.bytes.put_byte.Goals as goal

pub returns-then-at-out-clause-out_after : goal.returns-then-at-out-clause-out_after
returns-then-at-out-clause-out_after c = sym (put_at_byte c.args.byte c.args.at c.args.out.now c.if-at-out.true)
