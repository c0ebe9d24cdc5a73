-- `counting::listing::put_each` meets its contract. The invariant: the occurrences with a first place passed stand in the list.
use Rattle.counting.proofs.Listings.{listing_begin, listing_skip, listing_done, place_put, place_listed}
use Rattle.counting.proofs.listing.put_each.Goals as goal
use Rattle.counting.proofs.listing.put_each.Goals.{then-tables-i-eq1, else-tables-i-eq1}

pub loop-i-init : goal.loop-i-init
loop-i-init c = λ g. listing_begin

pub put_window-rows-requires : goal.put_window-rows-requires
put_window-rows-requires c = let g = c.requires.put in place_put g (c.loop-i.invariant g) c.loop-i-test.true c.start.ensures

pub loop-i-preserved : goal.loop-i-preserved
loop-i-preserved c = λ g.
    let s = c.loop-i.invariant g in
    let i = c.loop-i-test.true in
    elim c.if-tables-i-eq1.branch [
      | then-tables-i-eq1 w ↦ rw (w.list-is, w.rows-is)
          (place_listed g s i w.start.ensures w.put_window-rows.auto.list (w.put_window-rows.ensures (place_put g s i w.start.ensures)))
      | else-tables-i-eq1 w ↦ rw (w.list-is, w.rows-is) (listing_skip g.plan.handed.input s i g.plan.handed.table w.if-tables-i-eq1.false)
    ]

pub returns : goal.returns
returns c = λ g. listing_done g.plan.handed.input (c.loop-i.invariant g) c.loop-i-test.false g.room
