-- Rows of places compared slot by slot, and the earlier and the later place at each slot.
use Rattle.std.specs.Prelude.{ℕ, ◌≤◌, ◌<◌, min, max, Bool, List, [], ◌∷◌, replicate, ltb}
use Rattle.matching.specs.Occurrence.{at}
use Rattle.matching.specs.Occurrences.{each}

-- the row that has the place p at each of m slots
abbrev pub level : ℕ → ℕ → List ℕ
level m p = replicate m p

-- r stands before s at each of m slots
unfoldable pub Before : ℕ → List ℕ → List ℕ → Type 0
Before m r s = (j : ℕ) → j < m → at r j < at s j

-- its test
unfoldable pub before : ℕ → List ℕ → List ℕ → Bool
before m r s = each m (λ j. ltb (at r j) (at s j))

-- r stands after s at none of m slots
unfoldable pub NotAfter : ℕ → List ℕ → List ℕ → Type 0
NotAfter m r s = (j : ℕ) → j < m → at r j ≤ at s j

-- the two seen from the end of the text: r stands after s at each of m slots
abbrev pub After : ℕ → List ℕ → List ℕ → Type 0
After m r s = Before m s r

-- and before s at none of them
abbrev pub NotBefore : ℕ → List ℕ → List ℕ → Type 0
NotBefore m r s = NotAfter m s r

-- the earlier place at each slot
unfoldable pub meet : List ℕ → List ℕ → List ℕ
meet [] s = []
meet (p ∷ r) [] = []
meet (p ∷ r) (q ∷ s) = min p q ∷ meet r s

-- the later place at each slot
unfoldable pub join : List ℕ → List ℕ → List ℕ
join [] s = s
join (p ∷ r) [] = p ∷ r
join (p ∷ r) (q ∷ s) = max p q ∷ join r s
