-- `counting::window::spread` meets its contract. The invariant: the row is done below i, and from i on it has the next slot's sums.
use Rattle.std.proofs.Common.{◌≡◌, ◌+◌, ◌<◌, ◌≤◌, arith}
use Rattle.counting.specs.Steps.Rows.{onward}
use Rattle.counting.proofs.Loops.{writing_begin, writing_fits, writing_more, spread_inside, spread_past, spread_skip}
use Rattle.counting.proofs.window.spread.Goals as goal
use Rattle.counting.proofs.window.spread.Goals.{then-fits-i-eq1, else-fits-i-eq1, then-fits-k-eq1, else-fits-k-eq1}

pub loop-i-init : goal.loop-i-init
loop-i-init c = writing_begin

-- ---- where the widest gap ends inside the next slot's row

pub overflow_add-sum : goal.overflow_add-sum
overflow_add-sum c =
    let a = c.args in
    let r = c.requires in
    let s = c.loop-i.invariant in
    let i = c.loop-i.i in
    let h : i + a.gap.high + 1 < a.m = omega (arith, c.inside-inner.ensures, c.from-high.ensures, c.loop-i-test.true) in
    let here : c.if-fits-i-eq1.here ≡ onward a.fits.now a.gap.low a.gap.high a.m a.row.now i = elim c.if-fits-i-eq1.branch [
      | then-fits-i-eq1 w ↦ rw (w.here-is, c.from-low.ensures, c.from-high.ensures) (spread_inside a.fits.now a.gap.low a.gap.high a.m s r.short.0 h w.if-fits-i-eq1.true)
      | else-fits-i-eq1 w ↦ rw w.here-is (spread_skip a.fits.now a.gap.low a.gap.high a.m a.row.now i w.if-fits-i-eq1.false)
    ] in
    omega (arith, writing_fits s c.carried.ensures here (r.small (i + 1) (omega (arith, c.inside-inner.ensures, c.loop-i-test.true))))

pub loop-i-preserved : goal.loop-i-preserved
loop-i-preserved c =
    let a = c.args in
    let r = c.requires in
    let s = c.loop-i.invariant in
    let i = c.loop-i.i in
    let h : i + a.gap.high + 1 < a.m = omega (arith, c.inside-inner.ensures, c.from-high.ensures, c.loop-i-test.true) in
    let here : c.if-fits-i-eq1.here ≡ onward a.fits.now a.gap.low a.gap.high a.m a.row.now i = elim c.if-fits-i-eq1.branch [
      | then-fits-i-eq1 w ↦ rw (w.here-is, c.from-low.ensures, c.from-high.ensures) (spread_inside a.fits.now a.gap.low a.gap.high a.m s r.short.0 h w.if-fits-i-eq1.true)
      | else-fits-i-eq1 w ↦ rw w.here-is (spread_skip a.fits.now a.gap.low a.gap.high a.m a.row.now i w.if-fits-i-eq1.false)
    ] in
    writing_more s c.carried.ensures here (omega (arith, h, r.room))

-- ---- where it ends past it

pub overflow_add-sum-in-loop-k : goal.overflow_add-sum-in-loop-k
overflow_add-sum-in-loop-k c =
    let a = c.args in
    let r = c.requires in
    let s = c.loop-k.invariant in
    let k = c.loop-k.k in
    let h = c.loop-k-test.true in
    let past : a.m ≤ k + a.gap.high + 2 = omega (arith, c.inside-inner.ensures, c.from-high.ensures, c.loop-k.auto.k, h) in
    let here : c.if-fits-k-eq1.here ≡ onward a.fits.now a.gap.low a.gap.high a.m a.row.now k = elim c.if-fits-k-eq1.branch [
      | then-fits-k-eq1 w ↦ rw w.here-is (spread_past a.fits.now a.gap.low a.gap.high a.m s (omega (arith, h, r.short)) past (rw c.from-low.ensures at w.min.ensures) w.if-fits-k-eq1.true)
      | else-fits-k-eq1 w ↦ rw w.here-is (spread_skip a.fits.now a.gap.low a.gap.high a.m a.row.now k w.if-fits-k-eq1.false)
    ] in
    omega (arith, writing_fits s c.carried-in-loop-k.ensures here (r.small (k + 1) (omega (arith, h))))

pub loop-k-preserved : goal.loop-k-preserved
loop-k-preserved c =
    let a = c.args in
    let r = c.requires in
    let s = c.loop-k.invariant in
    let k = c.loop-k.k in
    let h = c.loop-k-test.true in
    let past : a.m ≤ k + a.gap.high + 2 = omega (arith, c.inside-inner.ensures, c.from-high.ensures, c.loop-k.auto.k, h) in
    let here : c.if-fits-k-eq1.here ≡ onward a.fits.now a.gap.low a.gap.high a.m a.row.now k = elim c.if-fits-k-eq1.branch [
      | then-fits-k-eq1 w ↦ rw w.here-is (spread_past a.fits.now a.gap.low a.gap.high a.m s (omega (arith, h, r.short)) past (rw c.from-low.ensures at w.min.ensures) w.if-fits-k-eq1.true)
      | else-fits-k-eq1 w ↦ rw w.here-is (spread_skip a.fits.now a.gap.low a.gap.high a.m a.row.now k w.if-fits-k-eq1.false)
    ] in
    writing_more s c.carried-in-loop-k.ensures here (omega (arith, h, r.room, r.short))
