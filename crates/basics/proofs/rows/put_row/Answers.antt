-- One place more is stored.
use Rattle.std.proofs.Common.{arith}
use Rattle.basics.specs.Laws.Arrays.{pasted_more}
use Rattle.basics.proofs.rows.put_row.Goals as goal

pub loop-i-preserved : goal.loop-i-preserved
loop-i-preserved c = (omega arith, rw c.loop-i.invariant.1 (pasted_more c.args.list.now c.args.row.now c.loop-i.i (omega arith) (omega arith)))
