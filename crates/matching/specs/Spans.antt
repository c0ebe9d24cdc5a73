-- How far the slots of a row can be from its first place, and where the rows that start at a place can stand: in its sentence.
use Rattle.std.specs.Prelude.{ℕ, zero, suc, ◌+◌, ◌-◌, ◌<◌, min, Bool, true, false, ◌≡◌}
use Rattle.basics.specs.Choice.{pick}
use Rattle.pattern.specs.declared.Pattern.{Pattern}
use Rattle.pattern.specs.Patterns.{slot_at}
use Rattle.matching.specs.Occurrence.{View}

-- ---- the sentence of a place

-- the first of the n places past p at which a sentence ends, or the last of them
unfoldable pub next_end : (ℕ → Bool) → ℕ → ℕ → ℕ
next_end ends zero p = p
next_end ends (suc n) p = pick (ends (suc p)) (suc p) (next_end ends n (suc p))

-- the last place that the rows with the first place p can have: where the sentence ends, or the text
unfoldable pub horizon : View → ℕ → ℕ
horizon v p = next_end v.ends (v.places - p) p

-- none of m slots fits a place at which a sentence ends
pub record NoEndFits (m : ℕ) (v : View) : Type 0 where
  pub unfit : (j : ℕ) → j < m → (p : ℕ) → v.fits j p ≡ true → v.ends p ≡ false

-- ---- distances, by the gaps

-- the distance from the first place to that at slot k, where the gap before each slot j has `gap j` words
unfoldable pub distance : (ℕ → ℕ) → ℕ → ℕ
distance gap zero = 0
distance gap (suc k) = distance gap k + gap (suc k) + 1

module _ (f : Pattern) where
  -- the least distance from the first place to the place at slot k
  abbrev pub near : ℕ → ℕ
  near k = distance (λ j. (slot_at f j).low) k

  -- the largest
  abbrev pub far : ℕ → ℕ
  far k = distance (λ j. (slot_at f j).high) k

  -- the number of places that a row can span
  unfoldable pub width : ℕ
  width = min f.most (far (f.count - 1) + 1)

  -- the stop of slot j in the rows with the first place p: the slot stands before it
  unfoldable pub limit : View → ℕ → ℕ → ℕ
  limit v p j = p + min (min width (horizon v p + 1 - p)) (far j + 1)

  -- the least last place of those rows
  unfoldable pub least : ℕ → ℕ
  least p = p + f.least - 1
