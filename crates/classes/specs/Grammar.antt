-- The grammar: which bytes are an expression, which tree is its reading, and how deep its brackets are nested. In bytes `a` to `h` are
-- 97 to 104, `!` is 33, `&` 38, `|` 124, `(` 40 and `)` 41.
use Rattle.std.specs.Prelude.{ℕ, suc, ◌+◌, ◌<◌, max, List, [], ◌∷◌, ◌++◌}
use Rattle.classes.specs.Trees.{Tree, letter, negation, both, either}

-- `!` binds tightest, then `&`, then `|`
pub data Level : Type 0 where
  alternative : Level
  conjunction : Level
  factor : Level

-- bytes, tree, depth. The right side of `&` and of `|` is of the tighter level: a row of either groups from the left. Brackets add one to the
-- depth of what they hold; of two sides the deeper one counts.
pub data Grammar : Level → List ℕ → Tree → ℕ → Type 0 where
  one_letter : (k : ℕ) → k < 8 → Grammar factor ((97 + k) ∷ []) (letter k) 0
  denial : {s : List ℕ} {t : Tree} {d : ℕ} → Grammar factor s t d → Grammar factor (33 ∷ s) (negation t) d
  brackets : {s : List ℕ} {t : Tree} {d : ℕ} → Grammar alternative s t d → Grammar factor (40 ∷ (s ++ (41 ∷ []))) t (suc d)
  one_factor : {s : List ℕ} {t : Tree} {d : ℕ} → Grammar factor s t d → Grammar conjunction s t d
  and_factor : {s s' : List ℕ} {t t' : Tree} {d d' : ℕ} → Grammar conjunction s t d → Grammar factor s' t' d'
      → Grammar conjunction (s ++ (38 ∷ s')) (both t t') (max d d')
  one_conjunction : {s : List ℕ} {t : Tree} {d : ℕ} → Grammar conjunction s t d → Grammar alternative s t d
  or_conjunction : {s s' : List ℕ} {t t' : Tree} {d d' : ℕ} → Grammar alternative s t d → Grammar conjunction s' t' d'
      → Grammar alternative (s ++ (124 ∷ s')) (either t t') (max d d')
