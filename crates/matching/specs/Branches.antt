-- All occurrences depth first: the rows from a slot on that start at a place, enumerated and counted. It computes fast, and the
-- counting goes by it; `Laws/Branches` and `Laws/Cover` prove that it enumerates the occurrences.
use Rattle.std.specs.Prelude.{ℕ, zero, suc, ◌+◌, ◌-◌, Bool, ◌&&◌, List, [], ◌∷◌, map, leb, ltb}
use Rattle.basics.specs.Choice.{only, when}
use Rattle.basics.specs.Sums.{total, gather}
use Rattle.pattern.specs.declared.Pattern.{Pattern}
use Rattle.pattern.specs.Patterns.{slot_at}
use Rattle.matching.specs.Occurrence.{View}
use Rattle.matching.specs.Occurrences.{places}

-- each slot j stands short of its own `stop j`, and the last slot not before `from`
module _ (f : Pattern) (v : View) (stop : ℕ → ℕ) (from : ℕ) where
  -- the slot fits the place, which is short of the slot's stop
  unfoldable pub stands : ℕ → ℕ → Bool
  stands j p = ltb p (stop j) && v.fits j p

  -- the rows of the slot j and the k after it that start at the place p
  unfoldable pub branches : ℕ → ℕ → ℕ → List (List ℕ)
  branches zero j p = only (stands j p && leb from p) ((p ∷ []) ∷ [])
  branches (suc k) j p =
      only (stands j p)
      (map (λ r. p ∷ r) (gather (branches k (suc j)) (places (p + (slot_at f (suc j)).low + 1) ((slot_at f (suc j)).high + 1 - (slot_at f (suc j)).low))))

  -- and their number
  unfoldable pub ways : ℕ → ℕ → ℕ → ℕ
  ways zero j p = when (stands j p && leb from p) 1
  ways (suc k) j p =
      when (stands j p)
      (total ((slot_at f (suc j)).high + 1 - (slot_at f (suc j)).low) (ways k (suc j)) (p + (slot_at f (suc j)).low + 1))
