-- What holds of every member of a list, and of every two; and the members that pass a test.
use Rattle.std.specs.Prelude.{Bool, true, false, List, [], ◌∷◌}

module _ {A : Type 0} where
  -- P holds of each member
  pub data Every (P : A → Type 0) : List A → Type 0 where
    none : Every P []
    more : {x : A} {xs : List A} → P x → Every P xs → Every P (x ∷ xs)

  -- each member stands in the relation to each later one
  pub data Pairwise (R : A → A → Type 0) : List A → Type 0 where
    none : Pairwise R []
    more : {x : A} {xs : List A} → Every (R x) xs → Pairwise R xs → Pairwise R (x ∷ xs)

  -- x before the others, where the test holds
  unfoldable pub keep : Bool → A → List A → List A
  keep true x xs = x ∷ xs
  keep false x xs = xs

  -- the members that pass the test
  unfoldable pub select : (A → Bool) → List A → List A
  select p [] = []
  select p (x ∷ xs) = keep (p x) x (select p xs)
