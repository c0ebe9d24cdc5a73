-- `counting::column::whole` meets its contract. The invariant: the column is done for the sentences passed.
use Rattle.std.proofs.Common.{◌-◌, length, sym, ◌∙◌, arith}
use borrow.Rule.Slice.PartMut.{same_len_mid}
use Rattle.basics.specs.Laws.Lending.{tail_length, mid_is}
use Rattle.counting.proofs.Parting.{sentence_within, sentence_next, sentence_past}
use Rattle.counting.proofs.Columns.{filled_more, column_done}
use Rattle.counting.proofs.column.whole.Goals as goal

pub ways-requires-clause-within : goal.ways-requires-clause-within
ways-requires-clause-within c = sentence_within c.requires.plan c.loop-i-test.true c.sentence-w.ensures

pub ways-requires-clause-room : goal.ways-requires-clause-room
ways-requires-clause-room c =
    let l = c.loop-i in
    omega (arith, c.requires.room, tail_length l.column l.i (omega (arith, c.requires.room)), sentence_past c.requires.plan c.loop-i-test.true c.sentence-w.ensures)

pub overflow_add-i : goal.overflow_add-i
overflow_add-i c = omega (arith, sentence_past c.requires.plan c.loop-i-test.true c.sentence-w.ensures)

pub loop-i-smaller : goal.loop-i-smaller
loop-i-smaller c = omega (arith, sentence_past c.requires.plan c.loop-i-test.true c.sentence-w.ensures)

pub loop-i-preserved : goal.loop-i-preserved
loop-i-preserved c = λ g.
    let h = g.handed in
    let i = c.loop-i-test.true in
    let l = c.loop-i in
    let w = c.sentence-w.ensures in
    rw (sentence_next g i w)
    (filled_more (l.invariant g) h.input (sym h.outlined.spans ∙ c.requires.spans) c.requires.room i (h.horizons.last l.i i) w (c.ways.ensures g)
    (mid_is l.column l.i (omega (arith, c.requires.room)) _)
    (same_len_mid l.i (length l.column - l.i) l.column _ c.ways.auto.row))

pub returns : goal.returns
returns c = λ g. column_done (c.loop-i.invariant g) c.loop-i-test.false
