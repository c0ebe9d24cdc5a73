-- Demand 3: the front list F and the back list B are largest nonoverlapping sets, and bound every other such set row by row.
use Rattle.std.specs.Prelude.{ℕ, ◌+◌, ◌≤◌, ◌<◌, ◌≡◌, List, [], length, get_or}
use Rattle.pattern.specs.declared.Pattern.{Pattern}
use Rattle.matching.specs.Occurrence.{View, plain, OccursIn}
use Rattle.basics.specs.Collections.{Every}
use Rattle.matching.specs.Nonoverlap.{NonoverlappingIn}
use Rattle.matching.specs.Rows.{NotAfter}
use Rattle.matching.specs.Rising.{rising}

-- in any view
pub record LargestIn (f : Pattern) (v : View) (F B : List (List ℕ)) : Type 0 where
  pub front : NonoverlappingIn f v F
  pub back : NonoverlappingIn f v B
  pub equal : length F ≡ length B
  -- however its rows cross
  pub most : (H : List (List ℕ)) → NonoverlappingIn f v H → length H ≤ length F
  pub occur : (H : List (List ℕ)) → NonoverlappingIn f v H → Every (OccursIn f v) (rising H)
  -- row by row from the start, at no slot earlier than the front list
  pub above : (H : List (List ℕ)) → NonoverlappingIn f v H → (k : ℕ) → k < length H → NotAfter f.count (get_or F k []) (get_or (rising H) k [])
  -- row by row from the end, at no slot later than the back list: row i of the set and row j of the back list have k rows after them
  pub below : (H : List (List ℕ)) → NonoverlappingIn f v H → (i j k : ℕ) → i + k + 1 ≡ length H → j + k + 1 ≡ length B
      → NotAfter f.count (get_or (rising H) i []) (get_or B j [])

-- in a text
abbrev pub Largest : Pattern → List ℕ → List (List ℕ) → List (List ℕ) → Type 0
Largest f t F B = LargestIn f (plain f t) F B
