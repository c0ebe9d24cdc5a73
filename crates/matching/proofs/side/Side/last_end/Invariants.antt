-- `last_end` meets its contract. The invariant: no sentence ends from the place p on and before `to`.
use Rattle.std.proofs.Common.{◌≡◌, ℕ, ◌<◌, ◌≤◌, false}
use Rattle.matching.specs.Occurrence.{ends_at}
use Rattle.matching.specs.Steps.Turning.{seen}
use Rattle.matching.proofs.side.Side.last_end.Given as goal

abbrev pub invariant-loop-p : goal.invariant-loop-p
invariant-loop-p l = (x : ℕ) → l.p ≤ x → l.from ≤ x → x < l.to → ends_at (seen l.self.mirrored l.self.text.now) x ≡ false
