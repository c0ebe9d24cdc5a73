-- `counting::fits::tabulate` meets its contract. The invariant: the slots passed are marked.
use Rattle.matching.specs.Occurrence.{plain}
use Rattle.counting.proofs.Fitting.{FittedBelow}
use Rattle.counting.proofs.fits.tabulate.Given as goal

abbrev pub invariant-loop-j : goal.invariant-loop-j
invariant-loop-j l = FittedBelow l.pattern (plain l.pattern l.text) l.initial.fits l.j l.fits
