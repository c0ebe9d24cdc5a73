-- `keep` meets its contract. The invariant: no occurrence is left behind, and no sentence ends past the first place and before `from`.
use Rattle.std.proofs.Common.{refl, arith, ◌-◌, ◌+◌}
use Rattle.std.proofs.Math.Nat.{le-max_right}
use Rattle.matching.specs.Occurrence.{at}
use Rattle.matching.specs.Steps.Sides.{sight}
use Rattle.matching.proofs.Raising.{placed}
use Rattle.matching.proofs.Keeping.{settled-found, keeping_begin, unkept, last_inside, Looked, kept, keeping_more, keeping_less}
use Rattle.matching.proofs.side.Side.keep.Goals as goal
use Rattle.matching.proofs.side.Side.keep.Goals.{After-last_end}

-- the look for a sentence end
looked : (c : After-last_end) → Looked c.args.self.now.pattern.now (sight c.args.self.now) c.args.p.now c.loop-to.p c.loop-to.from c.settle.new.p
    (at c.settle.new.p (c.args.self.now.pattern.now.count - 1)) c.last_end.result
looked c = record {
  keeping = c.loop-to.invariant;
  settled = settled-found c.loop-to-test.true c.settle.ensures;
  ready = c.args.self.now.ready;
  last_is = refl;
  end_is = rw c.max.ensures at c.last_end.ensures;
}

pub loop-to-init : goal.loop-to-init
loop-to-init c = keeping_begin (omega arith) c.requires.unbroken

pub settle-requires : goal.settle-requires
settle-requires c = placed c.loop-to.invariant.rising c.requires.placed

pub last_end-requires : goal.last_end-requires
last_end-requires c = (
  omega (arith, le-max_right c.loop-to.from (at c.settle.new.p 0 + 1)),
  omega (arith, last_inside (settled-found c.loop-to-test.true c.settle.ensures) c.args.self.now.ready),
)

pub returns-in_default : goal.returns-in_default
returns-in_default c = kept (looked (goal.at.returns-in_default c).After-last_end) c.in_default.is

pub overflow_cast-p-in-loop-to : goal.overflow_cast-p-in-loop-to
overflow_cast-p-in-loop-to c = omega (arith, (keeping_less (looked (goal.at.overflow_cast-p-in-loop-to c).After-last_end) _ c.in-Some.is).1)

pub loop-to-smaller : goal.loop-to-smaller
loop-to-smaller c = (keeping_less (looked (goal.at.loop-to-smaller c).After-last_end) _ c.in-Some.is).0

pub loop-to-preserved : goal.loop-to-preserved
loop-to-preserved c = keeping_more (looked (goal.at.loop-to-preserved c).After-last_end) _ c.in-Some.is

pub returns : goal.returns
returns c = unkept c.loop-to.invariant c.loop-to-test.false c.settle.ensures refl
