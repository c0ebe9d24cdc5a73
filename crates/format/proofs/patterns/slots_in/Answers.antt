-- The invariant: the slots are those so far, with the slots of the rest after them.
use Rattle.std.proofs.Common.{sym, ◌∙◌, length-set, arith}
use Rattle.pattern.specs.Laws.Filling.{filled_first, filled_next, filled_none, filled_past}
use Rattle.format.proofs.SlotSteps.{slots_next, slots_open}
use Rattle.format.proofs.patterns.slots_in.Goals as goal

pub loop-k-preserved : goal.loop-k-preserved
loop-k-preserved c = record {
  sixteen = simp length-set c.loop-k.invariant.sixteen;
  filled = c.loop-k.invariant.filled ∙ filled_next c.loop-k.slots _ _ _ c.loop-k.k c.slot_of.result (slots_next c.args.c c.in-Some.ensures) c.slot_of.ensures;
}

pub returns-after-loop-k : goal.returns-after-loop-k
returns-after-loop-k c = sym (sym (filled_first _) ∙ c.loop-k.invariant.filled ∙ filled_past _ c.loop-k.slots c.loop-k.k (omega arith))

pub returns-in_default : goal.returns-in_default
returns-in_default c = sym (sym (filled_first _) ∙ c.loop-k.invariant.filled ∙ filled_none c.loop-k.slots _ c.loop-k.k (slots_open c.args.c c.in_default.ensures))
