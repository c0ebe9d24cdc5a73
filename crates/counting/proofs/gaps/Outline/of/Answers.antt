-- `counting::gaps::Outline::of` meets its contract: the bounds say how near and how far the last slot can be.
use Rattle.std.proofs.Common.{◌≡◌, ◌-◌, ◌≤◌, ◌∙◌, arith}
use Rattle.matching.specs.Spans.{near, far, width}
use Rattle.counting.specs.Laws.Inputs.{gaps}
use Rattle.counting.proofs.Distances.{near_distance, far_distance, near_bound, far-bound, unbound_is}
use Rattle.counting.proofs.gaps.Outline.of.Goals as goal
use Rattle.counting.proofs.gaps.Outline.of.Goals.{After-distances-near}

-- ---- what is known there

least : (c : After-distances-near) → c.distances-near.result.0 ≡ near c.args.pattern.now (c.args.pattern.now.count - 1)
least c = c.distances-near.ensures.near ∙ near_distance c.gaps_of-gaps.ensures c.requires.some

most : (c : After-distances-near) → c.distances-near.result.1 ≡ far c.args.pattern.now (c.args.pattern.now.count - 1)
most c = c.distances-near.ensures.far ∙ far_distance c.gaps_of-gaps.ensures c.requires.some

few : (c : After-distances-near) → c.distances-near.result.1 ≤ 960
few c =
    let ok = c.requires in
    let some = ok.some in
    omega (arith, most c, far-bound ok (c.args.pattern.now.count - 1) (omega arith))

-- ---- what is asked there

pub distances-near-requires-clause-narrow : goal.distances-near-requires-clause-narrow
distances-near-requires-clause-narrow c = λ k l.
    let s = c.gaps_of-gaps.ensures in
    let g = gaps c.requires k l in
    (omega (arith, s.low k l), omega (arith, s.high k l))

pub overflow_add-far : goal.overflow_add-far
overflow_add-far c = let h = few (goal.at.overflow_add-far c).After-distances-near in omega arith

pub unbound-requires : goal.unbound-requires
unbound-requires c =
    let at = (goal.at.unbound-requires c).After-distances-near in
    let ok = c.requires in
    let some = ok.some in
    (omega (arith, least at, near_bound ok (c.args.pattern.now.count - 1) (omega arith)), few at)

pub returns : goal.returns
unfolding width
returns c =
    let at = (goal.at.returns c).After-distances-near in
    record {
      gaps = c.gaps_of-gaps.ensures;
      farthest = most at;
      widest = omega (arith, c.min.ensures, c.from-most.ensures, most at);
      shortest = c.from-least.ensures;
      spans = unbound_is c.args.pattern.now _ c.from-least.ensures c.from-most.ensures (least at) (most at) c.unbound.ensures;
    }
