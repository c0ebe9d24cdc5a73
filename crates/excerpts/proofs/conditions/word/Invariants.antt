use Rattle.std.proofs.Common.{◌≡◌, ℕ, ◌<◌, true}
use Rattle.excerpts.proofs.Deciding.{fitting}
use Rattle.excerpts.proofs.conditions.word.Given as goal

abbrev pub invariant-loop-j : goal.invariant-loop-j
invariant-loop-j l = (k : ℕ) → k < l.j → fitting l.pattern l.text l.row k ≡ true
