use Rattle.counting.proofs.Closing.{Closing}
use Rattle.counting.proofs.sentences.horizons.Given as goal

abbrev pub invariant-loop-i : goal.invariant-loop-i
invariant-loop-i l = Closing l.text l.initial.lasts l.i l.last l.lasts
