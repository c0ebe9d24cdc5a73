use Rattle.matching.specs.Occurrence.{ends_at, Unbroken}
use Rattle.excerpts.proofs.conditions.sentence.Given as goal

abbrev pub invariant-loop-place : goal.invariant-loop-place
invariant-loop-place l = Unbroken (ends_at l.text) l.first l.place
