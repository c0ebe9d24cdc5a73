-- What the steps of the list calls come to, in either direction.
use Rattle.std.specs.Prelude.{ℕ, ◌*◌, ◌≤◌, Bool, true, false, List, map, reverse, ◌≡◌, length}
use Rattle.pattern.specs.declared.Pattern.{Pattern}
use Rattle.matching.specs.Lists.{leftmost, leftmost_in, rightmost}
use Rattle.matching.specs.Steps.Sides.{sight}
use Rattle.matching.specs.declared.side.Side.{Side}
use Rattle.matching.specs.Steps.Turning.{flip, Turned}

-- the pattern g is f as it is searched: turned round where mirrored
pub record Faces (b : Bool) (f g : Pattern) : Type 0 where
  pub on : b ≡ false → g ≡ f
  pub back : b ≡ true → Turned f g
  pub count : g.count ≡ f.count

-- the list l has room for every row that is found by the side
abbrev pub Room : Side → List ℕ → Type 0
Room s l = length (leftmost_in s.pattern.now (sight s)) * s.pattern.now.count ≤ length l

-- the rows as they are stored, of those that were found in a text of n words
abbrev pub shown_rows : Bool → ℕ → List (List ℕ) → List (List ℕ)
shown_rows true n R = reverse (map (flip n) R)
shown_rows false n R = R

-- the list that is stored
abbrev pub stored : Bool → Pattern → List ℕ → List (List ℕ)
stored true f t = rightmost f t
stored false f t = leftmost f t
