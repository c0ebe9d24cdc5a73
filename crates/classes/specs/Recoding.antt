-- What recoding a text by word class answers, and what its list then holds (document 02, Job 9).
use Rattle.std.specs.Prelude.{ℕ, ◌≡◌, Bool, not, List, [], ◌∷◌, length, ltb, eqb, Result, Ok, Err}
use Rattle.basics.specs.Choice.{pick}
use Rattle.basics.specs.Written.{over}
use Rattle.pattern.specs.declared.refusal.Refusal.{Refusal}
use Rattle.pattern.specs.declared.refusal.Refusal.TheVariants.{ZeroWord, TextLength, ListLength, NotExpression, TooDeep, UnequalLengths}
use Rattle.pattern.specs.Tests.{Verdict, refuse, and_then}
use Rattle.classes.specs.Trees.{Tree, meets}
use Rattle.classes.specs.Judgements.{Judgement, not_expression, too_deep, read_as, Judged}

-- ---- the words

-- a 0 stays 0; another word becomes the code where its class byte meets the expression
abbrev pub recoded_word : Bool → ℕ → ℕ → ℕ
recoded_word met code w = pick (eqb w 0) 0 (pick met code w)

-- a text with a class byte for each word
unfoldable pub recoded_words : Tree → ℕ → List ℕ → List ℕ → List ℕ
recoded_words t code (w ∷ text) (c ∷ classes) = recoded_word (meets t c) code w ∷ recoded_words t code text classes
recoded_words t code (w ∷ text) [] = []
recoded_words t code [] classes = []

-- ---- the tests, in the order 6, 22, 3, 20, 21, 8

-- 20 or 21
abbrev pub judgement_verdict : Judgement → Verdict
judgement_verdict not_expression = Err NotExpression
judgement_verdict too_deep = Err TooDeep
judgement_verdict (read_as t) = Ok tt

-- of the text, its class bytes, the code, the judgement of the expression, and the output list
abbrev pub recode_verdict : List ℕ → List ℕ → ℕ → Judgement → List ℕ → Verdict
recode_verdict text classes code j out =
    refuse (ltb 20000 (length text)) TextLength
    (refuse (not (eqb (length text) (length classes))) UnequalLengths
    (refuse (eqb code 0) (ZeroWord 0)
    (and_then (judgement_verdict j)
    (refuse (ltb (length out) (length text)) (ListLength 0) (Ok tt)))))

-- ---- the answer, and the list

-- how many words, or why none
abbrev pub answered : Verdict → ℕ → Result ℕ Refusal
answered (Ok tt) words = Ok words
answered (Err why) words = Err why

-- the recoded text, where the expression has a reading
abbrev pub recoded_text : Judgement → ℕ → List ℕ → List ℕ → List ℕ
recoded_text (read_as t) code text classes = recoded_words t code text classes
recoded_text not_expression code text classes = []
recoded_text too_deep code text classes = []

-- the words over the start of the output list; on a refusal that list as it was
abbrev pub listed_by : Verdict → List ℕ → List ℕ → List ℕ
listed_by (Ok tt) out words = over out words
listed_by (Err why) out words = out

-- text, class bytes, expression, code and the output list before the call; the answer, and that list after it
pub record Recodes (text classes expression : List ℕ) (code : ℕ) (out : List ℕ) (r : Result ℕ Refusal) (after : List ℕ) : Type 0 where
  -- 20, 21 or the reading of the expression: there is exactly one (Laws/Judging)
  pub judgement : Judgement
  pub judged : Judged expression judgement
  pub answer : r ≡ answered (recode_verdict text classes code judgement out) (length text)
  pub content : after ≡ listed_by (recode_verdict text classes code judgement out) out (recoded_text judgement code text classes)
