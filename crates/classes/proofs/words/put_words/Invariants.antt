use Rattle.classes.specs.Steps.Sets.{numbers}
use Rattle.classes.proofs.Writing.{Written}
use Rattle.classes.proofs.words.put_words.Given as goal

abbrev pub invariant-loop-i : goal.invariant-loop-i
invariant-loop-i l = Written (numbers l.set) l.code l.text l.classes l.initial.list l.i l.list
