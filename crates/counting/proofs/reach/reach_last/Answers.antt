-- `counting::reach::reach_last` meets its contract. The invariant: the entries are done from the index i on, and q is the entry there.
use Rattle.std.proofs.Common.{refl}
use Rattle.counting.proofs.Reaching.{both_hold, too_far, not_fit, reach_here, reach_later}
use Rattle.counting.proofs.reach.reach_last.Goals as goal
use Rattle.counting.proofs.reach.reach_last.Goals.{then-fits-i-eq1+then-from-first, else-fits-i-eq1, else-fits-i-eq1-via-then-fits-i-eq1+else-from-first, else-fits-i-eq1-via-else-fits-i-eq1}

pub loop-i-preserved : goal.loop-i-preserved
loop-i-preserved c =
    let s = c.loop-i.invariant in
    let pos = c.loop-i-test.true in
    let room = c.requires.2 in
    elim c.if-fits-i-eq1.branch [
      | then-fits-i-eq1+then-from-first w ↦ rw w.q-is (reach_here s pos room refl (both_hold w.if-fits-i-eq1.true w.if-from-first.true))
      | else-fits-i-eq1 w ↦ rw w.q-is (elim w.else-fits-i-eq1.branch [
        | else-fits-i-eq1-via-then-fits-i-eq1+else-from-first v ↦ reach_later s pos room refl (too_far v.if-fits-i-eq1.true v.if-from-first.false)
        | else-fits-i-eq1-via-else-fits-i-eq1 v ↦ reach_later s pos room refl (not_fit _ _ _ v.if-fits-i-eq1.false)
      ])
    ]
