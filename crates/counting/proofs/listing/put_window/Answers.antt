-- `counting::listing::put_window` meets its contract: the window's table leads the walk over the rows that start there.
use Rattle.std.proofs.Common.{◌≡◌, ◌+◌, ◌-◌, refl, arith}
use Rattle.counting.proofs.Listings.{window_walk, window_written}
use Rattle.counting.proofs.listing.put_window.Goals as goal

pub walk-requires : goal.walk-requires
walk-requires c =
    let g = c.requires in
    let some = g.some in
    let e : c.args.w.starts - 1 + 1 ≡ c.args.w.starts = omega arith in
    (window_walk g refl e (c.reach_all.ensures g.plan), refl)

pub returns : goal.returns
returns c = λ g.
    let some = g.some in
    let e : c.args.w.starts - 1 + 1 ≡ c.args.w.starts = omega arith in
    window_written g refl e (c.reach_all.ensures g.plan) (c.walk.ensures.walked (window_walk g refl e (c.reach_all.ensures g.plan)))
