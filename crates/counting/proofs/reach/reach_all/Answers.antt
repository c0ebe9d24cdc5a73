-- `counting::reach::reach_all` meets its contract. The invariant: the entries from slot j on say where a row goes on.
use Rattle.std.proofs.Common.{◌∙◌, arith}
use Rattle.counting.proofs.Counting.{run_small, run_part, gap_low, gap_high, gap_order, starts_small, size_less, stage_begin}
use Rattle.counting.proofs.Tabling.{tabling_begin, tabling_more}
use Rattle.counting.proofs.reach.reach_all.Goals as goal

pub overflow_add-w : goal.overflow_add-w
overflow_add-w c = omega (arith, starts_small c.requires.plan c.requires.within)

pub reach_last-requires : goal.reach_last-requires
reach_last-requires c =
    let r = c.requires in
    let s = run_small r.plan r.within in
    let n = run_part r.plan r.within (omega arith) (omega (arith, c.min-n.ensures)) c.fits_of.ensures in
    (omega arith, omega (arith, c.min-n.ensures), omega (arith, c.min-n.ensures))

pub loop-j-init : goal.loop-j-init
loop-j-init c = λ g.
    let h = g.handed in
    tabling_begin h.input h.table c.requires.within.inside (stage_begin _ h.input.pattern.some h.outlined.farthest c.min-n.ensures) c.fits_of.ensures c.reach_last.ensures

pub reach_on-requires : goal.reach_on-requires
reach_on-requires c =
    let g = c.requires.plan in
    let i = c.requires.within in
    let s = run_small g i in
    let h = (c.loop-j.invariant g).here in
    let inside = h.inside in
    let pos = c.loop-j-test.true in
    let less = size_less h pos (c.from-high.ensures ∙ gap_high g h pos) c.min-k.ensures in
    let gap = gap_order g h pos in
    let n = run_part g i (omega arith) (omega arith) c.fits_of-in-loop-j.ensures in
    (omega (arith, c.from-low.ensures), omega (arith, c.from-high.ensures), omega arith, omega arith, omega arith)

pub loop-j-preserved : goal.loop-j-preserved
loop-j-preserved c = λ g.
    let s = run_small g c.requires.within in
    let t = c.loop-j.invariant g in
    let pos = c.loop-j-test.true in
    let gap = gap_order g t.here pos in
    tabling_more g.handed.input g.handed.table c.requires.within.inside (omega arith) t pos (c.from-low.ensures ∙ gap_low g t.here pos) (c.from-high.ensures ∙ gap_high g t.here pos)
    (omega (arith, c.from-high.ensures)) c.min-k.ensures c.fits_of-in-loop-j.ensures c.reach_on.ensures
