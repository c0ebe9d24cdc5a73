-- Entries past the stated number of slots or words are not looked at: the test of a row and the excerpt are the same for patterns that
-- state the same.
use Rattle.std.specs.Prelude.{ℕ, ◌≡◌, List}
use Rattle.pattern.specs.declared.Pattern.{Pattern}
use Rattle.pattern.specs.Stated.{SameStated}
use Rattle.pattern.specs.Laws.Agree.{same_agree}
use Rattle.matching.proofs.Laws.Stated.{agree_occurs, row_same}
use Rattle.excerpts.specs.Answers.{is_occurrence, excerpt_of, excerpt_start}

module _ {f g : Pattern} (same : SameStated f g) (t row : List ℕ) where
  pub test_same : is_occurrence f t row ≡ is_occurrence g t row
  test_same = rw (row_same same t row, agree_occurs (same_agree same) t row)

  pub excerpt_same : excerpt_of f t row ≡ excerpt_of g t row
  unfolding excerpt_of
  excerpt_same = rw (test_same, same.count)

  pub start_same : excerpt_start f t row ≡ excerpt_start g t row
  unfolding excerpt_start
  start_same = rw (test_same)
