-- `gap` meets its contract. The invariant: each gap up to the one before slot j has low to high words.
use Rattle.std.proofs.Common.{sym, ◌∙◌, arith, below_more}
use Rattle.matching.specs.Occurrences.{gap_fits}
use Rattle.excerpts.proofs.Deciding.{gap_true, gap_false}
use Rattle.excerpts.proofs.conditions.gap.Goals as goal

pub returns-then-not-within : goal.returns-then-not-within
unfolding gap_fits
returns-then-not-within c = gap_false _ _ c.loop-j.j (omega arith) (sym c.within.ensures ∙ c.if-not-within.true)

pub loop-j-preserved : goal.loop-j-preserved
unfolding gap_fits
loop-j-preserved c = below_more _ _ c.loop-j.invariant (sym c.within.ensures ∙ c.if-not-within.false)

pub returns : goal.returns
returns c = gap_true _ _ (λ k h. c.loop-j.invariant k (omega arith))
