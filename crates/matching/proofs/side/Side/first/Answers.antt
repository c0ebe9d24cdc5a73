-- `first` meets its contract. The invariant: no place from `from` on that was passed has a word that the slot takes.
use Rattle.std.proofs.Common.{arith, sym, ◌∙◌, true≢false, below_more}
use Rattle.matching.proofs.side.Side.first.Goals as goal

pub returns-then-takes : goal.returns-then-takes
returns-then-takes c = record {
  low = omega arith;
  hit = λ _. rw (c.word.ensures) at (sym c.takes.ensures ∙ c.if-takes.true);
  none = c.loop-p.invariant;
}

pub loop-p-preserved : goal.loop-p-preserved
loop-p-preserved c =
    let no = rw (c.word.ensures) at (sym c.takes.ensures ∙ c.if-takes.false) in
    below_more _ _ c.loop-p.invariant (λ _ g. true≢false (sym g ∙ no))

pub returns : goal.returns
returns c = record {
  low = omega (arith, c.loop-p-test.false);
  hit = λ h. absurd (omega arith);
  none = λ p l. c.loop-p.invariant p (omega arith);
}
