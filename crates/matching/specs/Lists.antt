-- The front and back lists of document 01: search after search, each from the row before. Both have their earliest row first.
use Rattle.std.specs.Prelude.{ℕ, zero, suc, List, [], ◌∷◌, reverse}
use Rattle.std.proofs.Math.Option.{Option, none, some}
use Rattle.pattern.specs.declared.Pattern.{Pattern}
use Rattle.matching.specs.Occurrence.{View, plain}
use Rattle.matching.specs.Rows.{level}
use Rattle.matching.specs.Searches.{earliest_in, latest_in}

-- the row that a search found and what follows it, or nothing
unfoldable pub onward : Option (List ℕ) → (List ℕ → List (List ℕ)) → List (List ℕ)
onward none rest = []
onward (some r) rest = r ∷ rest r

-- what the search finds from the marks, then from each row the next, until there is none; at most n rows
unfoldable pub follow : (List ℕ → Option (List ℕ)) → ℕ → List ℕ → List (List ℕ)
follow search zero marks = []
follow search (suc n) marks = onward (search marks) (λ r. follow search n r)

-- the front list: no two rows have the same first place, so there are at most as many rows as places
unfoldable pub leftmost_in : Pattern → View → List (List ℕ)
leftmost_in f v = follow (λ marks. earliest_in f v marks) v.places (level f.count 0)

-- of a text (document 01: front list)
abbrev pub leftmost : Pattern → List ℕ → List (List ℕ)
leftmost f t = leftmost_in f (plain f t)

-- the back list, found from its last row on
unfoldable pub rightmost_in : Pattern → View → List (List ℕ)
rightmost_in f v = reverse (follow (λ marks. latest_in f v marks) v.places (level f.count 65535))

-- of a text (document 01: back list)
abbrev pub rightmost : Pattern → List ℕ → List (List ℕ)
rightmost f t = rightmost_in f (plain f t)
