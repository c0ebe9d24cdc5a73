-- `counting::listing::put_whole` meets its contract. The invariant: the occurrences of the sentences passed stand in the list.
use Rattle.std.proofs.Common.{arith}
use Rattle.counting.proofs.Parting.{sentence_past}
use Rattle.counting.proofs.Listings.{listing_begin, listing_done, sentence_put, sentence_listed}
use Rattle.counting.proofs.listing.put_whole.Goals as goal

pub loop-i-init : goal.loop-i-init
loop-i-init c = λ g. listing_begin

pub put_window-rows-requires : goal.put_window-rows-requires
put_window-rows-requires c = let g = c.requires.put in sentence_put g (c.loop-i.invariant g) c.loop-i-test.true c.requires.spans c.sentence-w.ensures

pub overflow_add-i : goal.overflow_add-i
overflow_add-i c = omega (arith, sentence_past c.requires.put.plan c.loop-i-test.true c.sentence-w.ensures)

pub loop-i-smaller : goal.loop-i-smaller
loop-i-smaller c = omega (arith, sentence_past c.requires.put.plan c.loop-i-test.true c.sentence-w.ensures)

pub loop-i-preserved : goal.loop-i-preserved
loop-i-preserved c = λ g.
    let s = c.loop-i.invariant g in
    let i = c.loop-i-test.true in
    let spans = c.requires.spans in
    let w = c.sentence-w.ensures in
    sentence_listed g s i spans w c.put_window-rows.auto.list (c.put_window-rows.ensures (sentence_put g s i spans w))

pub returns : goal.returns
returns c = λ g. listing_done g.plan.handed.input (c.loop-i.invariant g) c.loop-i-test.false g.room
