-- `sentence` meets its contract. The invariant: no sentence ends past the first place and before the place that is looked at.
use Rattle.std.proofs.Common.{arith}
use Rattle.excerpts.proofs.Deciding.{last_in_text, sentence_true, sentence_false, unbroken_more}
use Rattle.excerpts.proofs.conditions.sentence.Goals as goal

pub bounds-text-place : goal.bounds-text-place
bounds-text-place c = omega (arith, last_in_text c.args.pattern.now c.args.text.now c.args.row.now c.requires.0.some c.requires.1)

pub returns-then-text-place-eq0 : goal.returns-then-text-place-eq0
returns-then-text-place-eq0 c = sentence_false _ _ _ c.loop-place.place (omega arith) (omega arith) c.if-text-place-eq0.true

pub loop-place-preserved : goal.loop-place-preserved
loop-place-preserved c = unbroken_more c.args.text.now c.loop-place.invariant c.if-text-place-eq0.false

pub returns : goal.returns
returns c = sentence_true _ _ _ (λ x a b. c.loop-place.invariant x (omega arith) (omega arith))
