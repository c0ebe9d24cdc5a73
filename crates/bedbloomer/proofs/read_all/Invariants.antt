-- What is read so far lies at the start of the list, which keeps its length, and is what the reader has lost; a read that gives bytes leaves
-- less room.
use Rattle.std.proofs.Common.{◌-◌, ◌≤◌, length, take}
use Rattle.std.specs.Io.KnownBytes.{Consumes}
use Rattle.bedbloomer.proofs.read_all.Given as goal

abbrev pub invariant-loop-done : goal.invariant-loop-done
invariant-loop-done g l = record {
  within : l.done ≤ length l.list;
  consumed : Consumes (g.R.Read.remaining l.fn.file) (g.R.Read.remaining l.file) (take l.done l.list);
}

abbrev pub decreases-loop-done : goal.decreases-loop-done
decreases-loop-done g l = length l.initial.list - l.done
