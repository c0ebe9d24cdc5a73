-- The rising order of a set of rows: row k has at each slot the k-th smallest of the set's places at that slot.
use Rattle.std.specs.Prelude.{ℕ, List, [], ◌∷◌, map}
use Rattle.matching.specs.Occurrence.{at}
use Rattle.matching.specs.Rows.{meet, join}

-- insertion sort by compare and exchange: of places with `min` and `max`, and of rows, at every slot by itself, with `meet` and `join`
module _ {A : Type 0} (lower upper : A → A → A) where
  -- x into a sorted list
  unfoldable pub insert : A → List A → List A
  insert x [] = x ∷ []
  insert x (y ∷ ys) = lower x y ∷ insert (upper x y) ys

  -- one after the other
  unfoldable pub sort : List A → List A
  sort [] = []
  sort (x ∷ xs) = insert x (sort xs)

-- a set of rows in rising order (document 01: rising order)
abbrev pub rising : List (List ℕ) → List (List ℕ)
rising H = sort meet join H

-- the places of the rows at a slot
abbrev pub column : ℕ → List (List ℕ) → List ℕ
column j H = map (λ r. at r j) H
