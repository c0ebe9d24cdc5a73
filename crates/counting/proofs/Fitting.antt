-- The table of fits, filled slot by slot. Assumes nothing.
use Rattle.std.proofs.Common.{◌≡◌, ℕ, ◌+◌, ◌*◌, ◌<◌, ◌≤◌, Bool, List, length, get_or}
use Rattle.pattern.specs.declared.Pattern.{Pattern}
use Rattle.matching.specs.Occurrence.{View}
use Rattle.counting.specs.Steps.Fits.{fitted}

-- ---- the entries of a slot: done below i

pub record Fitting (fits : ℕ → Bool) (at : ℕ) (T₀ : List ℕ) (i : ℕ) (T : List ℕ) : Type 0 where
  pub long : length T ≡ length T₀
  pub here : (k : ℕ) → k < i → fitted T (at + k) ≡ fits (k + 1)
  pub before : (k : ℕ) → k < at → get_or T k 0 ≡ get_or T₀ k 0

-- ---- the table: done below the slot j

pub record FittedBelow (f : Pattern) (v : View) (T₀ : List ℕ) (j : ℕ) (T : List ℕ) : Type 0 where
  pub long : length T ≡ length T₀
  pub inside : j ≤ f.count
  pub fit : (a : ℕ) → a < j → (i : ℕ) → i < v.places → fitted T (a * 20000 + i) ≡ v.fits a (i + 1)
