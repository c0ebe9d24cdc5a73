-- `turn_back` meets its contract. The invariant: of the list in reverse, the entries before the index are counted from the other end.
use Rattle.std.proofs.Common.{arith, ◌+◌, ◌-◌}
use Rattle.std.proofs.lemmas.List.{get_or_default}
use Rattle.std.proofs.lemmas.List.Edits.{map_over_more}
use Rattle.matching.specs.Occurrence.{at}
use Rattle.matching.proofs.Reversing.{turned_all}
use Rattle.matching.proofs.lists.turn_back.Goals as goal

pub loop-place-preserved : goal.loop-place-preserved
loop-place-preserved c =
    let l = c.loop-place in
    let one = map_over_more (λ p. c.args.n + 1 - p) c.reverse.new.self l.list l.place-index (at l.list l.place-index) c.loop-place-test.true l.invariant (get_or_default l.list l.place-index 0 (at l.list l.place-index) (omega arith)) in
    rw c.saturating_sub.ensures one

pub returns : goal.returns
returns c = turned_all c.args.n c.args.list.now c.reverse.ensures.after c.loop-place.invariant c.loop-place-test.false
