-- `write_rows` meets its contract. The invariant: the k rows found so far are written, and a row that is found has room.
use Rattle.std.proofs.Common.{◌≡◌, true, arith, ◌≤◌, ◌+◌, ◌*◌, length}
use Rattle.matching.proofs.Finding.{counted_end, counted-few, counted_less}
use Rattle.matching.proofs.Writing.{writing_begin, writing_put, writing_all, room_next}
use Rattle.matching.proofs.lists.write_rows.Goals as goal
use Rattle.matching.proofs.lists.write_rows.Goals.{After-follow}

-- a row that was found has room
room : (c : After-follow) → c.follow.result ≡ true → c.loop-row.k * c.args.side.now.pattern.now.count + c.args.side.now.pattern.now.count ≤ length c.loop-row.list
room c e = room_next c.loop-row.invariant c.args.side.now.ready c.follow.ensures e c.requires

pub loop-row-init : goal.loop-row-init
loop-row-init c = writing_begin _ _ _ c.args.side.now.ready.few

pub slice_bounds-put_row-start : goal.slice_bounds-put_row-start
slice_bounds-put_row-start c = omega (arith, room (goal.at.slice_bounds-put_row-start c).After-follow c.loop-row-test.true)

pub slice_bounds-put_row-count : goal.slice_bounds-put_row-count
slice_bounds-put_row-count c = omega (arith, room (goal.at.slice_bounds-put_row-count c).After-follow c.loop-row-test.true)

pub loop-row-smaller : goal.loop-row-smaller
loop-row-smaller c = counted_less c.loop-row.invariant.counted c.args.side.now.ready c.follow.ensures c.loop-row-test.true

pub loop-row-preserved : goal.loop-row-preserved
loop-row-preserved c = writing_put c.loop-row.invariant c.args.side.now.ready c.follow.ensures c.loop-row-test.true c.requires c.put_row.ensures.list_after

pub returns : goal.returns
returns c =
    let W = c.loop-row.invariant in
    let ok = c.args.side.now.ready in
    record { value = (counted_end W.counted ok c.follow.ensures c.loop-row-test.false, counted-few W.counted ok); list_after = writing_all W ok c.follow.ensures c.loop-row-test.false }
