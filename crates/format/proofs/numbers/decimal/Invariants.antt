use Rattle.std.proofs.Common.{◌≡◌, ◌≤◌, drop}
use Rattle.format.specs.Bytes.{decimal, more}
use Rattle.format.proofs.numbers.decimal.Given as goal

abbrev pub invariant-loop-b : goal.invariant-loop-b
invariant-loop-b l = (l.v ≤ 65535) × (decimal l.s ≡ more (drop l.b-index l.s) l.v)
