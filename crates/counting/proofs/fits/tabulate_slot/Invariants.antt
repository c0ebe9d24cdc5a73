-- `counting::fits::tabulate_slot` meets its contract. The invariant: the fits of the words passed are set.
use Rattle.matching.specs.Occurrence.{takes_at}
use Rattle.counting.proofs.Fitting.{Fitting}
use Rattle.counting.proofs.fits.tabulate_slot.Given as goal

abbrev pub invariant-loop-i : goal.invariant-loop-i
invariant-loop-i l = Fitting (takes_at l.slot l.text) l.at l.initial.fits l.i l.fits
