-- A worked text that is recoded by word class and then counted: "the" and, after up to two words, a noun or a name that is no plural. The
-- letters stand for: a noun, b name, c plural, d adjective.
use Rattle.std.specs.Prelude.{ℕ, ◌≤◌, ◌≡◌, List, [], ◌∷◌, length, Result, Ok}
use Rattle.basics.specs.Written.{over}
use Rattle.pattern.specs.declared.Pattern.{Pattern}
use Rattle.pattern.specs.declared.refusal.Refusal.{Refusal}
use Rattle.matching.specs.Texts.{one_word, pattern_of, Results}
use Rattle.classes.specs.Trees.{Tree, letter, negation, both, either}
use Rattle.classes.specs.Grammar.{Grammar, alternative}
use Rattle.classes.specs.Recoding.{Recodes}

-- the cat sees the cats . Anna sees the old dog
unfoldable pub text_classed : List ℕ
text_classed = 10 ∷ 21 ∷ 30 ∷ 10 ∷ 22 ∷ 0 ∷ 23 ∷ 30 ∷ 10 ∷ 40 ∷ 24 ∷ []

-- the full stop has a class byte that meets the expression
unfoldable pub classes_classed : List ℕ
classes_classed = 0 ∷ 1 ∷ 0 ∷ 0 ∷ 5 ∷ 3 ∷ 2 ∷ 0 ∷ 0 ∷ 8 ∷ 1 ∷ []

-- (a|b)&!c
unfoldable pub expression_classed : List ℕ
expression_classed = 40 ∷ 97 ∷ 124 ∷ 98 ∷ 41 ∷ 38 ∷ 33 ∷ 99 ∷ []

unfoldable pub reading_classed : Tree
reading_classed = both (either (letter 0) (letter 1)) (negation (letter 2))

-- with the code 900
unfoldable pub text-recoded : List ℕ
text-recoded = 10 ∷ 900 ∷ 30 ∷ 10 ∷ 22 ∷ 0 ∷ 900 ∷ 30 ∷ 10 ∷ 40 ∷ 900 ∷ []

-- the[0,2]900
unfoldable pub pattern_classed : Pattern
pattern_classed = pattern_of (one_word 10 0 0 ∷ one_word 900 0 2 ∷ []) 1 20000

pub record Worked : Type 0 where
  pub read : Grammar alternative expression_classed reading_classed 1
  pub recoded : {out : List ℕ} {r : Result ℕ Refusal} {after : List ℕ} → Recodes text_classed classes_classed expression_classed 900 out r after
      → 11 ≤ length out → (r ≡ Ok 11) × (after ≡ over out text-recoded)
  -- the cat, the old dog; not: the cats . Anna
  pub counted : Results pattern_classed text-recoded
      ((1 ∷ 2 ∷ []) ∷ (9 ∷ 11 ∷ []) ∷ [])
      ((1 ∷ 2 ∷ []) ∷ (9 ∷ 11 ∷ []) ∷ [])
      ((1 ∷ 2 ∷ []) ∷ (9 ∷ 11 ∷ []) ∷ [])
      2 2
