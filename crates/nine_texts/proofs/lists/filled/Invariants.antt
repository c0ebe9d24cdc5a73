-- An entry is left of the forty.
use Rattle.std.proofs.Common.{◌<◌}
use Rattle.nine_texts.proofs.lists.filled.Given as goal

abbrev pub invariant-loop-place : goal.invariant-loop-place
invariant-loop-place l = l.size < 40

abbrev pub invariant-loop-row : goal.invariant-loop-row
invariant-loop-row l = l.size < 40
