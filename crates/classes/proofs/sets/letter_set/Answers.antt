-- `letter_set` meets its contract: it answers a row of the table, whose rule is a test of every letter and class byte.
use Rattle.classes.proofs.ClassSets.{letter-rows}
use Rattle.classes.proofs.sets.letter_set.Goals as goal

pub returns : goal.returns
returns c = letter-rows c.widen_byte.result c.args.bit c.widen_byte.ensures.0 c.requires
