use Rattle.std.proofs.Common.{◌≡◌, ℕ, ◌<◌, ◌≤◌, true}
use Rattle.matching.specs.Occurrence.{takes_at}
use Rattle.matching.specs.Steps.Turning.{seen}
use Rattle.matching.proofs.side.Side.first.Given as goal

abbrev pub invariant-loop-p : goal.invariant-loop-p
invariant-loop-p l = (k : ℕ) → k < l.p → l.from ≤ k → takes_at l.slot (seen l.self.mirrored l.self.text.now) k ≡ true → ⊥
