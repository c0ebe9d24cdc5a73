-- `word` meets its contract. The invariant: each place before slot j is in the text and fits its slot.
use Rattle.std.proofs.Common.{sym, ◌∙◌, arith, below_more}
use Rattle.matching.specs.Occurrences.{place_fits_in}
use Rattle.excerpts.proofs.Deciding.{word_true, word_false}
use Rattle.excerpts.proofs.conditions.word.Goals as goal

pub returns-then-not-place_fits : goal.returns-then-not-place_fits
unfolding place_fits_in
returns-then-not-place_fits c = word_false _ _ _ c.loop-j.j (omega arith) (sym c.place_fits.ensures ∙ c.if-not-place_fits.true)

pub loop-j-preserved : goal.loop-j-preserved
unfolding place_fits_in
loop-j-preserved c = below_more _ _ c.loop-j.invariant (sym c.place_fits.ensures ∙ c.if-not-place_fits.false)

pub returns : goal.returns
returns c = word_true _ _ _ (λ k h. c.loop-j.invariant k (omega arith))
