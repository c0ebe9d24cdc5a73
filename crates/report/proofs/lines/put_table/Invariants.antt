use Rattle.std.proofs.Common.{◌≡◌, ◌≤◌, length, drop}
use Rattle.basics.specs.Writing.{Writes}
use Rattle.format.specs.Shown.{closed}
use Rattle.report.specs.Lines.{entry_lines}
use Rattle.report.proofs.lines.put_table.Given as goal

abbrev pub invariant-loop-e : goal.invariant-loop-e
invariant-loop-e l = record {
  written : Writes (closed (entry_lines l.lists.m l.lists.front.now l.lists.back.now l.e-iterator.count)) l.initial.out l.initial.next l.out l.next;
  fronts_left : l.e-iterator.iter.a.rest.now ≡ drop l.e-iterator.count l.lists.front.now;
  backs_left : l.e-iterator.iter.b.rest.now ≡ drop l.e-iterator.count l.lists.back.now;
  within : l.e-iterator.count ≤ length l.lists.front.now;
}
