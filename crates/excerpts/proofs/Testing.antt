-- What the test of a row goes by where nothing is refused: the row has a place for each slot, and the answer is by the four conditions.
-- Assumes nothing.
use Rattle.std.specs.Prelude.{Ok}
use Rattle.std.proofs.Common.{◌≡◌, ℕ, ◌&&◌, List, sym}
pub use mathlib.Core.Bool.{and-false}
use Rattle.pattern.specs.declared.Pattern.{Pattern}
use Rattle.matching.specs.Answers.{row_verdict}
use Rattle.matching.specs.Occurrences.{word, gap, span, sentence}
use Rattle.matching.proofs.Laws.Ready.{row-accepted}
use Rattle.excerpts.specs.Answers.{is_occurrence}
use Rattle.excerpts.specs.Laws.Conditions.{tested}
use Rattle.excerpts.specs.Steps.Rows.{Sized}

module _ (f : Pattern) (t row : List ℕ) (accepted : (Ok tt) ≡ row_verdict f t row) where
  pub sized : Sized f row
  sized = let a = row-accepted {f = f} {t = t} {row = row} (sym accepted) in record { some = a.ready.some; few = a.ready.few; size = a.size }

  pub by_four : is_occurrence f t row ≡ Ok (word f t row && gap f row && span f row && sentence f t row)
  by_four = tested f t row (sym accepted)

pub ruleset steps = (sized, by_four, and-false)
