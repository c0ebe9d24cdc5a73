use Rattle.std.proofs.Common.{◌+◌, ◌-◌, length}
use Rattle.counting.specs.Steps.Walks.{Walk}
use Rattle.counting.proofs.Walking.{Lent, Going}
use Rattle.counting.proofs.walk.Trail.+walk.Given as goal

abbrev pub decreases-walk : goal.decreases-walk
decreases-walk l = l.self.now.tables.slots - l.j

abbrev pub invariant-loop-q : goal.invariant-loop-q
invariant-loop-q l = record {
  lent : Lent l.j l.initial.row l.row;
  going : (w : Walk l.self l.j l.x l.y l.done (length l.initial.list)) → Going w l.initial.row l.initial.list l.q l.rows l.list;
}

abbrev pub decreases-loop-q : goal.decreases-loop-q
decreases-loop-q l = l.y + 1 - l.q
