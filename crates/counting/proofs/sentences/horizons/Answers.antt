-- `counting::sentences::horizons` meets its contract. The invariant: the entries from i on are done, and `last` is the horizon of place i.
use Rattle.std.proofs.Common.{arith}
use Rattle.counting.proofs.Closing.{closing_begin, closing_last, closing_more, closed}
use Rattle.counting.proofs.sentences.horizons.Goals as goal

pub loop-i-init : goal.loop-i-init
loop-i-init c = closing_begin _ _

pub overflow_cast-lasts : goal.overflow_cast-lasts
overflow_cast-lasts c = omega (arith, closing_last c.loop-i.invariant, c.requires)

pub loop-i-preserved : goal.loop-i-preserved
loop-i-preserved c = closing_more c.loop-i.invariant c.loop-i-test.true c.requires.1 c.closing-last.ensures

pub returns : goal.returns
returns c = closed c.loop-i.invariant c.loop-i-test.false c.requires.1
