-- `counting::walk::Trail::walk`, which calls itself, meets its contract. Its measure is the slots that are left.
-- The loop's invariant: the rows that start at the indexes passed stand in the list, and the row keeps its places before slot j.
use Rattle.std.proofs.Common.{◌+◌, ◌<◌, arith}
use Rattle.counting.proofs.Walking.{lent_begin, lent_set, lent_back}
use Rattle.counting.proofs.Walking.{going_begin, going_room, going_leaf, child, going_more, going_end}
use Rattle.counting.proofs.walk.Trail.+walk.Goals as goal
use Rattle.counting.proofs.walk.Trail.+walk.Goals.{then-last, else-last}

pub loop-q-init : goal.loop-q-init
loop-q-init t c = record { lent = lent_begin c.requires.1; going = λ w. going_begin w c.entry-q.ensures.0 }

pub put_at-requires : goal.put_at-requires
put_at-requires t c =
    let w = c.requires.0 in
    let l = c.loop-q in
    let room = going_room (l.invariant.going w) c.loop-q-test.true c.if-last.true in
    (omega (arith, w.leads.few, (lent_set l.invariant.lent (c.args.self.now.first + l.q + 1)).long), omega arith)

pub walk-rows-requires : goal.walk-rows-requires
walk-rows-requires t c =
    let w = c.requires.0 in
    let l = c.loop-q in
    let inner : c.args.j + 1 < c.args.self.now.tables.slots = omega (arith, c.if-last.false, w.slot) in (
      omega arith,
      (
        child (l.invariant.going w) c.loop-q-test.true inner (omega (arith, c.from.ensures)) (omega (arith, c.from-else-last.ensures)) (omega arith),
        (lent_set l.invariant.lent (c.args.self.now.first + l.q + 1)).long,
      ),
    )

pub loop-q-preserved : goal.loop-q-preserved
loop-q-preserved t c =
    let l = c.loop-q in
    let lent = l.invariant.lent in
    let place = c.args.self.now.first + l.q + 1 in
    let q = c.loop-q-test.true in
    elim c.if-last.branch [
      | then-last s ↦ record {
        lent = rw s.row-is (lent_set lent place);
        going = λ w. rw (s.list-is, s.rows-is) (going_leaf (l.invariant.going w) q c.entry-q-in-loop-q.ensures.0 lent s.if-last.true s.put_at.ensures);
      }
      | else-last s ↦
          let inner : c.args.j + 1 < c.args.self.now.tables.slots = omega (arith, s.if-last.false, c.requires.0.slot) in
          record {
            lent = rw s.row-is (lent_back lent place s.walk-rows.auto.row s.walk-rows.ensures.row_unchanged);
            going = λ w.
                let on = l.invariant.going w in
                rw (s.list-is, s.rows-is) (going_more on q c.entry-q-in-loop-q.ensures.0 lent inner _ _ (omega arith)
                (s.walk-rows.ensures.walked (child on q inner (omega (arith, s.from.ensures)) (omega (arith, s.from-else-last.ensures)) (omega arith))));
          }
    ]

pub returns-clause-walked : goal.returns-clause-walked
returns-clause-walked t c = λ w. going_end (c.loop-q.invariant.going w) c.loop-q-test.false
