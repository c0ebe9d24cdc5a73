-- `counting::window::ways` meets its contract. The invariant: the row of slot j has the ways on from each of its places.
use Rattle.std.proofs.Common.{◌∙◌, arith}
use Rattle.counting.proofs.Counting.{run_small, run_part, gap_low, gap_high, gap_order, back_fits, back_on, back_small, starts_small, size_less, stage_small, counting_begin, counting_room, counting_rising, counting_small, counting_more, counting_done}
use Rattle.counting.proofs.window.ways.Goals as goal

pub overflow_add-w : goal.overflow_add-w
overflow_add-w c = omega (arith, starts_small c.requires.plan c.requires.within)

pub ends-requires-clause-room : goal.ends-requires-clause-room
ends-requires-clause-room c =
    let r = c.requires in
    let s = run_small r.plan r.within in
    omega (arith, c.min-n.ensures, r.room, run_part r.plan r.within (omega arith) (omega (arith, c.min-n.ensures)) c.fits_of.ensures)

pub ends-requires-clause-short : goal.ends-requires-clause-short
ends-requires-clause-short c =
    let r = c.requires in
    let s = run_small r.plan r.within in
    let n = run_part r.plan r.within (omega arith) (omega (arith, c.min-n.ensures)) c.fits_of.ensures in
    (omega arith, omega (arith, c.min-n.ensures))

pub loop-j-init : goal.loop-j-init
loop-j-init c = λ g.
    let h = g.handed in
    counting_begin _ h.input.pattern.some h.outlined.farthest c.min-n.ensures h.input h.table c.requires.within.inside (omega (arith, c.requires.room, c.ends.auto.row))
    c.fits_of.ensures c.ends.ensures

pub overflow_sub-reach : goal.overflow_sub-reach
overflow_sub-reach c = let g = c.requires.plan in back_fits g (c.loop-j.invariant g).here c.loop-j-test.true c.from.ensures

pub overflow_sub-reach-in-loop-j : goal.overflow_sub-reach-in-loop-j
overflow_sub-reach-in-loop-j c = let g = c.requires.plan in back_on g (c.loop-j.invariant g).here c.loop-j-test.true c.from.ensures

pub overflow_add-w-in-loop-j : goal.overflow_add-w-in-loop-j
overflow_add-w-in-loop-j c =
    let g = c.requires.plan in
    omega (arith, back_small g (c.loop-j.invariant g).here c.loop-j-test.true c.from.ensures c.requires.within)

pub spread-requires-clause-room : goal.spread-requires-clause-room
spread-requires-clause-room c = let g = c.requires.plan in omega (arith, counting_room (c.loop-j.invariant g) g.handed.input)

pub spread-requires-clause-rising : goal.spread-requires-clause-rising
spread-requires-clause-rising c = let g = c.requires.plan in counting_rising (c.loop-j.invariant g) g.handed.input c.requires.within.inside c.loop-j-test.true

pub spread-requires-clause-small : goal.spread-requires-clause-small
spread-requires-clause-small c =
    let g = c.requires.plan in
    let r = c.loop-j.invariant g in
    let pos = c.loop-j-test.true in
    counting_small r g.handed.input c.requires.within.inside pos (gap_low g r.here pos) (gap_high g r.here pos) (rw c.from.ensures at c.min-k.ensures) g.handed.table
    c.fits_of-in-loop-j.ensures

pub spread-requires-clause-short : goal.spread-requires-clause-short
spread-requires-clause-short c =
    let g = c.requires.plan in
    let i = c.requires.within in
    let s = run_small g i in
    let h = (c.loop-j.invariant g).here in
    let inside = h.inside in
    let pos = c.loop-j-test.true in
    let less = size_less h pos (c.from.ensures ∙ gap_high g h pos) c.min-k.ensures in
    let n = run_part g i (omega arith) (omega arith) c.fits_of-in-loop-j.ensures in
    ((gap_order g h pos).0, omega arith, omega arith)

pub loop-j-preserved : goal.loop-j-preserved
loop-j-preserved c = λ g.
    let r = c.loop-j.invariant g in
    let pos = c.loop-j-test.true in
    rw c.from.ensures
    (counting_more r g.handed.input c.requires.within.inside pos (gap_low g r.here pos) (gap_high g r.here pos) (rw c.from.ensures at c.min-k.ensures) g.handed.table
    c.fits_of-in-loop-j.ensures c.spread.auto.row c.spread.ensures)

pub bounds-row-n : goal.bounds-row-n
bounds-row-n c = let g = c.requires.plan in omega (arith, c.loop-j.auto.row, counting_room (c.loop-j.invariant g) g.handed.input)

pub offset_bounds-row-n : goal.offset_bounds-row-n
offset_bounds-row-n c =
    let g = c.requires.plan in
    let s = run_small g c.requires.within in
    omega (arith, stage_small g.handed.input.pattern (c.loop-j.invariant g).here)

pub returns : goal.returns
returns c = λ g. counting_done (c.loop-j.invariant g) g.handed.input (omega (arith, c.loop-j-test.false))
