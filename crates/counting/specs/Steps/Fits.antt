-- The table of which slot fits which place: 1 where it does. Slot j has an entry for each place from the index j * 20000 on.
use Rattle.std.specs.Prelude.{◌≡◌, ℕ, ◌+◌, ◌*◌, ◌<◌, ◌≤◌, Bool, List, length, take, drop, ◌==◌, slice_index}
use Rattle.pattern.specs.declared.Pattern.{Pattern}
use Rattle.matching.specs.Occurrence.{View}

-- what an entry says
abbrev pub fitted : List ℕ → ℕ → Bool
fitted T i = slice_index T i == 1

-- the entries of one slot, from the index `at` on: which of n places it fits; what stands before is as it was
pub record SlotFitted (fits : ℕ → Bool) (n at : ℕ) (T T' : List ℕ) : Type 0 where
  pub here : (i : ℕ) → i < n → fitted T' (at + i) ≡ fits (i + 1)
  pub before : (k : ℕ) → k < at → slice_index T' k ≡ slice_index T k

-- the whole table
pub record Fitted (f : Pattern) (v : View) (T : List ℕ) : Type 0 where
  pub size : 320000 ≤ length T
  pub fit : (j : ℕ) → j < f.count → (i : ℕ) → i < v.places → fitted T (j * 20000 + i) ≡ v.fits j (i + 1)

-- n entries from an index on
unfoldable pub part : List ℕ → ℕ → ℕ → List ℕ
part T at n = take n (drop at T)
