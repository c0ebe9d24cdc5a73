use Rattle.std.proofs.Common.{◌≡◌, ◌+◌, ◌≤◌, List, ℕ, Bool, length}
use Rattle.std.specs.Fn.{FnReturnsAt}
use Rattle.format.specs.Bytes.{ended, lines}
use Rattle.format.specs.Layouts.{scan}
use Rattle.format.proofs.LineSteps.{scanned}
use Rattle.format.proofs.lines.count_lines.Given as goal

abbrev pub invariant-loop-rest : goal.invariant-loop-rest
invariant-loop-rest g l = record {
  few : l.n + length l.rest ≤ length l.s;
  same : (ok : List ℕ → Bool) → ((x : List ℕ) (b : Bool) → FnReturnsAt g.F.Fn l.test x b → b ≡ ok x) → scan (lines l.s) ok (ended l.s 10) 0 ≡ scanned ok l.rest l.n;
}

abbrev pub decreases-loop-rest : goal.decreases-loop-rest
decreases-loop-rest g l = length l.rest
