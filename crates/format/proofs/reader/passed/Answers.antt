-- The byte before the next line says whether this one is closed.
use Rattle.format.proofs.PassedSteps.{passed_none, passed_inside, passed_closed, passed_open}
use Rattle.format.proofs.reader.passed.Goals as goal

pub returns-then-next-at : goal.returns-then-next-at
returns-then-next-at c = passed_none c.args.s.now c.args.at c.args.next c.requires c.if-next-at.true

pub bounds-s-next : goal.bounds-s-next
bounds-s-next c = passed_inside c.args.s.now c.args.at c.args.next c.requires c.if-next-at.false

pub returns-then-s-next-eq10 : goal.returns-then-s-next-eq10
returns-then-s-next-eq10 c = passed_closed c.args.s.now c.args.at c.args.next c.requires c.if-next-at.false c.if-s-next-eq10.true

pub returns : goal.returns
returns c = passed_open c.args.s.now c.args.at c.args.next c.requires c.if-next-at.false c.if-s-next-eq10.false
