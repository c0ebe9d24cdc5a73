-- `turned` meets its contract. The invariant: the first j slots are those of the pattern from its end.
use Rattle.std.proofs.Common.{arith, length, ◌<◌, rules}
use Rattle.basics.specs.Laws.Arrays.{set_more}
use Rattle.pattern.specs.Patterns.{no_slot}
use Rattle.matching.specs.Steps.Turning.{TurnedSlot}
use Rattle.matching.proofs.Turning.{turned-slot}
use Rattle.matching.proofs.mirror.turned.Goals as goal

pub loop-j-preserved : goal.loop-j-preserved
loop-j-preserved c =
    let f = c.args.f.now in
    let l = c.loop-j in
    let z : l.j < length l.slots = omega arith in
    (search rules, set_more no_slot (λ k s. TurnedSlot f k s) l.slots l.j _ z l.invariant.1 (turned-slot f l.j _ c.loop-j-test.true c.gap_of.ensures c.with_gap.ensures))
