use Rattle.std.proofs.Common.{◌≡◌, ◌-◌, length, replicate}
use Rattle.pattern.specs.Patterns.{empty_slot}
use Rattle.pattern.specs.Laws.Filling.{filled}
use Rattle.merging.specs.Merging.{merged_slots}
use Rattle.merging.proofs.slots.merged_slots.Given as goal

abbrev pub invariant-loop-j : goal.invariant-loop-j
invariant-loop-j l = (length l.slots ≡ 16)
    × (filled (replicate 16 empty_slot) (merged_slots l.first l.second 0 l.first.count) 0 ≡ filled l.slots (merged_slots l.first l.second l.j (l.first.count - l.j)) l.j)
