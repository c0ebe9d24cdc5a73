-- `counting::gaps::distances` meets its contract. The invariant: both are the distance to the slot before slot k.
use Rattle.std.proofs.Common.{refl, arith}
use Rattle.matching.specs.Spans.{distance}
use Rattle.counting.proofs.Distances.{distance_more}
use Rattle.counting.proofs.gaps.distances.Goals as goal

pub loop-k-init : goal.loop-k-init
unfolding distance
loop-k-init c = record { some = omega arith; small = (omega arith, omega arith); near = refl; far = refl }

pub overflow_add-far : goal.overflow_add-far
overflow_add-far c = let x = c.requires.narrow c.loop-k.k c.loop-k-test.true in omega (arith, c.from-in-loop-k.ensures)

pub overflow_add-far-in-loop-k : goal.overflow_add-far-in-loop-k
overflow_add-far-in-loop-k c = let x = c.requires.narrow c.loop-k.k c.loop-k-test.true in omega (arith, c.from-in-loop-k.ensures, c.loop-k.invariant.small)

pub loop-k-preserved : goal.loop-k-preserved
loop-k-preserved c =
    let l = c.loop-k in
    let s = l.invariant in
    let x = c.requires.narrow l.k c.loop-k-test.true in
    record {
      some = omega arith;
      small = (omega (arith, c.from.ensures, s.small), omega (arith, c.from-in-loop-k.ensures, s.small));
      near = omega (arith, distance_more _ l.k s.some s.near c.from.ensures);
      far = omega (arith, distance_more _ l.k s.some s.far c.from-in-loop-k.ensures);
    }
