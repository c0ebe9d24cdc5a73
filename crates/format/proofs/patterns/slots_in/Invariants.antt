use Rattle.std.proofs.Common.{◌≡◌, length, replicate}
use Rattle.pattern.specs.Patterns.{empty_slot}
use Rattle.pattern.specs.Laws.Filling.{filled}
use Rattle.format.proofs.SlotSteps.{slots_from}
use Rattle.format.proofs.patterns.slots_in.Given as goal

abbrev pub invariant-loop-k : goal.invariant-loop-k
invariant-loop-k l = record {
  sixteen : length l.slots ≡ 16;
  filled : filled (replicate 16 empty_slot) (slots_from l.c l.s) 0 ≡ filled l.slots (slots_from l.c l.rest) l.k;
}
