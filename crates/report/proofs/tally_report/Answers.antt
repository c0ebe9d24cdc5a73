-- The tally decides, and the back list has as many rows as the front list, so that it fits.
use Rattle.std.proofs.Common.{rules, sym, ◌∙◌}
use Rattle.basics.specs.Laws.Writing.{writes_same}
use Rattle.report.proofs.Listing.{Backed, backed}
use Rattle.report.proofs.tally_report.Goals as goal
use Rattle.report.proofs.tally_report.Goals.{After-rightmost}

back : (c : After-rightmost) → Backed c.args.pattern c.args.text.now c.args.front.now c.rightmost.new.list c.args.rows
back c = backed c.rightmost.ensures.best c.requires c.rightmost.ensures.list_after

pub slice_bounds-back-end : goal.slice_bounds-back-end
slice_bounds-back-end c = let room = (back (goal.at.slice_bounds-back-end c).After-rightmost).room in search rules

pub slice_bounds-lists-end : goal.slice_bounds-lists-end
slice_bounds-lists-end c = (back (goal.at.slice_bounds-lists-end c).After-rightmost).equal

pub put_lists-requires : goal.put_lists-requires
put_lists-requires c = let b = back (goal.at.put_lists-requires c).After-rightmost in (b.some, b.equal)

pub returns-in-Ok : goal.returns-in-Ok
returns-in-Ok c =
    let b = back (goal.at.returns-in-Ok c).After-rightmost in
    rw (sym c.tally.ensures.value ∙ c.in-Ok.is) (writes_same (b.shown _ _) c.put_lists.ensures)
