-- The recoded words one by one.
use Prim.Native.Nat.{ℕ, zero, suc, ◌<◌}
use Rattle.std.proofs.Common.{arith}
use Rattle.std.specs.Prelude.{◌≡◌, length, get_or}
use Rattle.std.proofs.Math.Path.{refl, ap}
use mathlib.Core.List.{List, [], ◌∷◌}
use Rattle.classes.specs.Trees.{Tree, meets}
use Rattle.classes.specs.Recoding.{recoded_word, recoded_words}

module _ (t : Tree) (code : ℕ) where
  -- as many as the text has
  pub recoded-length : (text classes : List ℕ) → length classes ≡ length text → length (recoded_words t code text classes) ≡ length text
  unfolding recoded_words
  recoded-length [] classes h = refl
  recoded-length (w ∷ text) [] h = absurd (omega arith)
  recoded-length (w ∷ text) (c ∷ classes) h = ap suc (recoded-length text classes (omega arith))

  -- each by its own class byte
  pub recoded_at : (text classes : List ℕ) (i : ℕ) → length classes ≡ length text → i < length text
      → get_or (recoded_words t code text classes) i 0 ≡ recoded_word (meets t (get_or classes i 0)) code (get_or text i 0)
  unfolding recoded_words
  recoded_at [] classes i h l = absurd (omega arith)
  recoded_at (w ∷ text) [] i h l = absurd (omega arith)
  recoded_at (w ∷ text) (c ∷ classes) zero h l = refl
  recoded_at (w ∷ text) (c ∷ classes) (suc i) h l = recoded_at text classes i (omega arith) (omega arith)
