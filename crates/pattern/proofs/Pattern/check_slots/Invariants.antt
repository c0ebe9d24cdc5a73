-- `pattern::Pattern::check_slots` meets its contract. The invariant: the verdict on all slots is the verdict on those from j on.
use Rattle.std.proofs.Common.{◌≡◌, ◌-◌}
use Rattle.pattern.specs.Tests.{slots_verdict}
use Rattle.pattern.proofs.Pattern.check_slots.Given as goal

abbrev pub invariant-loop-j : goal.invariant-loop-j
invariant-loop-j g l =
    let told = g.T.SlotTest.told l.test in
    slots_verdict told l.self 0 l.count ≡ slots_verdict told l.self l.j (l.count - l.j)
