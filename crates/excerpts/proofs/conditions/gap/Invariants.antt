use Rattle.std.proofs.Common.{◌≡◌, ℕ, ◌<◌, true}
use Rattle.matching.specs.Occurrences.{gap_fits}
use Rattle.excerpts.proofs.conditions.gap.Given as goal

abbrev pub invariant-loop-j : goal.invariant-loop-j
invariant-loop-j l = (k : ℕ) → k < l.j → gap_fits l.pattern l.row k ≡ true
