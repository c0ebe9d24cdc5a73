-- `place_fits` meets its contract: the word is looked at only where the place is in the text.
use Rattle.std.proofs.Common.{◌≤◌, length, sym, arith}
use Rattle.matching.proofs.Laws.Tests.{within_iff}
use Rattle.excerpts.proofs.conditions.place_fits.Goals as goal
use Rattle.excerpts.proofs.conditions.place_fits.Goals.{Then-within}

in-text : (c : Then-within) → (1 ≤ c.args.place) × (c.args.place ≤ length c.args.text.now)
in-text c = (within_iff _ _ _).0 (sym c.if-within.ensures)

pub overflow_sub-place : goal.overflow_sub-place
overflow_sub-place c = omega (arith, in-text (goal.at.overflow_sub-place c).Then-within)

pub offset_bounds-text-place : goal.offset_bounds-text-place
offset_bounds-text-place c = omega (arith, in-text (goal.at.offset_bounds-text-place c).Then-within)

pub bounds-text-place : goal.bounds-text-place
bounds-text-place c = omega (arith, in-text (goal.at.bounds-text-place c).Then-within)
