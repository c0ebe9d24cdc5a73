-- `find` ensures the line's end, and whether there is one says whether it is closed.
use Rattle.std.proofs.Common.{ap, length, refl}
use Rattle.format.specs.declared.reader.Line.{Line}
use Rattle.format.proofs.LineSteps.{line-closed, line_open, line_past}
use Rattle.format.proofs.reader.after_line.Goals as goal

pub returns-then-n-at : goal.returns-then-n-at
returns-then-n-at c = ap (λ (l : Line). l.next) (line_past c.args.s.now c.args.at c.if-n-at.true)

pub returns-in-Some : goal.returns-in-Some
returns-in-Some c = ap (λ (l : Line). l.next) (line-closed c.args.s.now c.args.at c.in-Some.e c.in-Some.ensures.0 c.in-Some.ensures.1)

pub returns-in-None : goal.returns-in-None
returns-in-None c = ap (λ (l : Line). l.next) (line_open c.args.s.now c.args.at (length c.args.s.now) c.in-None.ensures refl)
