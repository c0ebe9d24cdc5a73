use Rattle.std.proofs.Common.{◌≡◌, ℕ, ◌<◌, length, get_or}
use Rattle.matching.specs.Steps.Turning.{TurnedSlot}
use Rattle.pattern.specs.Patterns.{no_slot}
use Rattle.matching.proofs.mirror.turned.Given as goal

abbrev pub invariant-loop-j : goal.invariant-loop-j
invariant-loop-j l = (length l.slots ≡ 16) × ((k : ℕ) → k < l.j → TurnedSlot l.f k (get_or l.slots k no_slot))
