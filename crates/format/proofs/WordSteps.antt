-- What each test of the field of a slot's words tells. Assumes nothing.
use Prim.Native.Nat.{ℕ}
use mathlib.Core.Bool.{Bool, true, false}
use mathlib.Core.List.{List, [], ◌∷◌, map}
use mathlib.Core.Path.{◌≡◌, refl}
use Rattle.pattern.specs.Patterns.{padded}
use Rattle.format.specs.Bytes.{decimal, parts, same, value}
use Rattle.format.specs.Words.{bare, unmarked, word_parts}
use Rattle.format.specs.Laws.Fields.{same_eq}
use Rattle.format.specs.Laws.Words.{listed-parts}

bare-padded : padded (map value (parts (unmarked (33 ∷ [])) 44)) ≡ padded (map value (word_parts (33 ∷ [])))
unfolding word_parts same parts value decimal
bare-padded = refl

-- the numbers past the mark, also where there are none
pub padded-words : (s : List ℕ) → padded (map value (parts (unmarked s) 44)) ≡ padded (map value (word_parts s))
padded-words s = go (bare s) refl
  where
    go : (x : Bool) → bare s ≡ x → padded (map value (parts (unmarked s) 44)) ≡ padded (map value (word_parts s))
    go true e = rw (same_eq s (33 ∷ []) e) bare-padded
    go false e = rw (listed-parts s e)
