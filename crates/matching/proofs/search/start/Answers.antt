-- `start` meets its contract. The invariant: of the first m places, those before the index are raised by one, the others as they were.
use mathlib.Core.Path.{refl}
use native.Mathlib.Omega.{arith}
use lib.Seq.{length-take-le}
use Rattle.matching.proofs.Settling.{started_none}
use Rattle.matching.proofs.search.start.Goals as goal

pub returns-then-n-x : goal.returns-then-n-x
returns-then-n-x c =
    let size = length-take-le c.args.m c.args.p.now c.requires.inside in
    started_none c.loop-x.invariant (omega (arith, size)) (omega arith) refl
