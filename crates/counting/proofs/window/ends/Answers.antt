-- `counting::window::ends` meets its contract. The invariant: the row is done below the index i.
use Rattle.std.proofs.Common.{◌≡◌, ◌+◌, ◌&&◌, leb, get_or, ◌∙◌, eq-eqb, ne_eqb, arith}
use Rattle.counting.specs.Steps.Fits.{fitted}
use Rattle.counting.specs.Steps.Rows.{ending}
use Rattle.counting.proofs.Loops.{when_byte, endings_few, writing_begin, writing_fits, writing_more}
use Rattle.counting.proofs.window.ends.Goals as goal
use Rattle.counting.proofs.window.ends.Goals.{then-fits-i-eq1, else-fits-i-eq1}

pub loop-i-init : goal.loop-i-init
loop-i-init c = writing_begin

-- the number at the index
ends_here : (c : goal.After-carried) → c.from-here.result ≡ ending c.args.fits.now c.args.first c.args.from c.loop-i.i
ends_here c =
    let a = c.args in
    let i = c.loop-i.i in
    let e : c.if-fits-i-eq1.from ≡ (fitted a.fits.now i && leb a.from (a.first + i + 1)) = elim c.if-fits-i-eq1.branch [
      | then-fits-i-eq1 w ↦ rw (eq-eqb (get_or a.fits.now i 0) 1 w.if-fits-i-eq1.true) w.from-is
      | else-fits-i-eq1 w ↦ rw (ne_eqb (get_or a.fits.now i 0) 1 w.if-fits-i-eq1.false) (w.from-is ∙ ne_eqb (get_or a.fits.now i 0) 1 w.if-fits-i-eq1.false)
    ] in
    when_byte c.from-here.ensures e

pub overflow_add-count : goal.overflow_add-count
overflow_add-count c =
    let a = c.args in
    let few = endings_few a.fits.now a.first a.from (c.loop-i.i + 1) in
    omega (arith, writing_fits c.loop-i.invariant c.carried.ensures (ends_here c) (omega (arith, few, c.loop-i-test.true, c.requires.short)))

pub loop-i-preserved : goal.loop-i-preserved
loop-i-preserved c = writing_more c.loop-i.invariant c.carried.ensures (ends_here c) (omega (arith, c.loop-i-test.true, c.requires.room))
