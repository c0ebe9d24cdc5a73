-- A worked text for the conditions of an occurrence, as one statement about the meanings: in one text one row meets all four, and each of
-- four others fails one of them alone. The letters a, b and x are the words 1, 2 and 6, a full stop the word 0.
use Rattle.std.specs.Prelude.{ℕ, ◌≡◌, List, [], ◌∷◌, Bool, true, false, Ok}
use Rattle.pattern.specs.declared.Pattern.{Pattern}
use Rattle.matching.specs.Occurrences.{word, gap, span, sentence}
use Rattle.matching.specs.Answers.{row_verdict}
use Rattle.matching.specs.Texts.{one_word, pattern_of, Results}

-- a[1,3]b, spans 2 to 4
unfoldable pub pattern-conditions : Pattern
pattern-conditions = pattern_of (one_word 1 0 0 ∷ one_word 2 1 3 ∷ []) 2 4

-- abxbba.b
unfoldable pub text-conditions : List ℕ
text-conditions = 1 ∷ 2 ∷ 6 ∷ 2 ∷ 2 ∷ 1 ∷ 0 ∷ 2 ∷ []

-- pattern, text and row are accepted, and what the four conditions say of the row, in their order
pub record Conditions (f : Pattern) (t r : List ℕ) (word_holds gap_holds span_holds sentence_holds : Bool) : Type 0 where
  pub accepted : row_verdict f t r ≡ Ok tt
  pub word_is : word f t r ≡ word_holds
  pub gap_is : gap f r ≡ gap_holds
  pub span_is : span f r ≡ span_holds
  pub sentence_is : sentence f t r ≡ sentence_holds

pub record ConditionTexts : Type 0 where
  pub results : Results pattern-conditions text-conditions ((1 ∷ 4 ∷ []) ∷ []) ((1 ∷ 4 ∷ []) ∷ []) ((1 ∷ 4 ∷ []) ∷ []) 1 1
  pub all_hold : Conditions pattern-conditions text-conditions (1 ∷ 4 ∷ []) true true true true
  -- x stands at place 3
  pub word_alone : Conditions pattern-conditions text-conditions (1 ∷ 3 ∷ []) false true true true
  -- no word between
  pub gap_alone : Conditions pattern-conditions text-conditions (1 ∷ 2 ∷ []) true false true true
  -- five words
  pub span_alone : Conditions pattern-conditions text-conditions (1 ∷ 5 ∷ []) true true false true
  -- the full stop at place 7
  pub sentence_alone : Conditions pattern-conditions text-conditions (6 ∷ 8 ∷ []) true true true false
