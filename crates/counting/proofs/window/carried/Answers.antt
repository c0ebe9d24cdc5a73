-- `counting::window::carried` meets its contract: by the test.
use Rattle.std.proofs.Common.{refl}
use Rattle.basics.specs.Choice.{when}
use Rattle.counting.proofs.window.carried.Goals as goal

pub returns-then-summed : goal.returns-then-summed
unfolding when
returns-then-summed c = rw c.if-summed.true refl

pub returns-else-summed : goal.returns-else-summed
unfolding when
returns-else-summed c = rw c.if-summed.false refl
