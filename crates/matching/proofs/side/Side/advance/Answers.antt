-- `advance` meets its contract: what is past the row is at or after the row just past it.
use Rattle.matching.specs.Steps.Sides.{sight}
use Rattle.matching.proofs.Settling.{answered}
use Rattle.matching.proofs.side.Side.advance.Goals as goal

pub returns-then-start : goal.returns-then-start
returns-then-start c = answered c.args.self.now.pattern.now (sight c.args.self.now) c.start.ensures c.requires.spare c.if-start.true c.keep.ensures
