-- `count_rows` meets its contract. The invariant: the k rows found so far are where the greedy list begins.
use Rattle.matching.proofs.Finding.{counted_begin, counted_end, counted-few, counted_less, counted_more}
use Rattle.matching.proofs.lists.count_rows.Goals as goal

pub loop-last-init : goal.loop-last-init
loop-last-init c = counted_begin _ _ c.args.side.now.ready.few

pub loop-last-smaller : goal.loop-last-smaller
loop-last-smaller c = counted_less c.loop-last.invariant c.args.side.now.ready c.follow.ensures c.loop-last-test.true

pub loop-last-preserved : goal.loop-last-preserved
loop-last-preserved c = counted_more c.loop-last.invariant c.args.side.now.ready c.follow.ensures c.loop-last-test.true

pub returns : goal.returns
returns c = (counted_end c.loop-last.invariant c.args.side.now.ready c.follow.ensures c.loop-last-test.false, counted-few c.loop-last.invariant c.args.side.now.ready)
