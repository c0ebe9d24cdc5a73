-- `counting::column::each` meets its contract. The invariant: the column is done for the places passed.
use Rattle.std.proofs.Common.{ℕ, ◌+◌, ap, arith}
use Rattle.counting.proofs.Distances.{span_some}
use Rattle.counting.proofs.Parting.{start_within, start_few}
use Rattle.counting.proofs.Columns.{filling_more, filling_skip, column_done}
use Rattle.counting.proofs.column.each.Goals as goal
use Rattle.counting.proofs.column.each.Goals.{then-tables-i-eq1, else-tables-i-eq1}

pub ways-requires-clause-within : goal.ways-requires-clause-within
ways-requires-clause-within c = start_within c.requires.plan c.loop-i-test.true c.start.ensures

pub ways-requires-clause-room : goal.ways-requires-clause-room
ways-requires-clause-room c = omega (arith, c.start.array_long, start_few c.requires.plan c.loop-i-test.true c.start.ensures)

pub loop-i-preserved : goal.loop-i-preserved
loop-i-preserved c = λ g.
    let h = g.handed in
    let o = h.outlined in
    let i = c.loop-i-test.true in
    let l = c.loop-i in
    let room = c.requires.blank.room in
    elim c.if-tables-i-eq1.branch [
      | then-tables-i-eq1 w ↦ rw w.column-is
          (filling_more (l.invariant g) h.input room i o.widest (span_some h.input.pattern o.widest) (h.horizons.last l.i i) (ap (λ (z : ℕ). l.i + z) o.shortest) w.start.ensures (w.ways.ensures g))
      | else-tables-i-eq1 w ↦ rw w.column-is (filling_skip (l.invariant g) h.input room i h.table w.if-tables-i-eq1.false)
    ]

pub returns : goal.returns
returns c = λ g. column_done (c.loop-i.invariant g).filled c.loop-i-test.false
