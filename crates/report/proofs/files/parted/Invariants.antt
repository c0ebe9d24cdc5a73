use Rattle.std.proofs.Common.{◌≡◌, ◌+◌, drop}
use Rattle.report.specs.Files.{parting, parted}
use Rattle.report.proofs.files.parted.Given as goal

abbrev pub invariant-loop-i : goal.invariant-loop-i
invariant-loop-i l = l.i + parting (drop l.i l.input) l.before ≡ parted l.input
