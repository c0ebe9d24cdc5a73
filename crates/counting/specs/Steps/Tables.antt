-- The table that leads the listing: for each slot and each index of a window of places, where the slot stands next in some row.
-- An index counts from 0 at the window's first place. Slot j has its entries from j * 20001 on, and 65535 says that there is none.
use Rattle.std.specs.Prelude.{◌≡◌, ℕ, ◌+◌, ◌-◌, ◌*◌, ◌<◌, ◌≤◌, min, Bool, true, false, ◌&&◌, List, [], ◌≢◌, nat_le, slice_index}
use Rattle.pattern.specs.declared.Pattern.{Pattern}
use Rattle.matching.specs.Occurrence.{View}
use Rattle.matching.specs.Branches.{branches}
use Rattle.counting.specs.declared.window.Window.{Window}
use Rattle.counting.specs.Steps.Fits.{fitted}
use Rattle.counting.specs.Steps.Rows.{size, stop_at}

-- ---- one slot's entries, by a test of each index

-- the first index from i on, of the n there are, at which the test holds
pub record NextAlive (alive : ℕ → Bool) (n i v : ℕ) : Type 0 where
  pub past : i ≤ v
  pub gap : (x : ℕ) → i ≤ x → x < v → x < n → alive x ≡ false
  pub here : v < 65535 → (v < n) × (alive v ≡ true)

-- the entries from the index `base` on; what stands past them is as it was
pub record Reached (alive : ℕ → Bool) (n base : ℕ) (N N' : List ℕ) : Type 0 where
  pub row : (i : ℕ) → i ≤ n → NextAlive alive n i (slice_index N' (base + i))
  pub above : (k : ℕ) → base + n < k → slice_index N' k ≡ slice_index N k

-- the last slot can stand there, at the place `from` or later
abbrev pub ends : List ℕ → ℕ → ℕ → ℕ → Bool
ends T first from i = fitted T i && nat_le from (first + i + 1)

-- a slot can stand there, and the next slot in its gap, by its entries N up to m
abbrev pub leads : List ℕ → ℕ → ℕ → ℕ → ℕ → List ℕ → ℕ → Bool
leads T low high m base N i = fitted T i && nat_le (slice_index N (base + 20001 + min (i + low + 1) m)) (i + high + 1)

-- ---- the whole table

-- the first index from i on at which there are rows
pub record NextRows (g : ℕ → List (List ℕ)) (n i v : ℕ) : Type 0 where
  pub past : i ≤ v
  pub gap : (x : ℕ) → i ≤ x → x < v → g x ≡ []
  pub here : v < 65535 → (v < n) × (g v ≢ [])

-- the rows of slot j and the k after it that start at an index
unfoldable pub rows_of : Pattern → View → Window → ℕ → ℕ → ℕ → List (List ℕ)
rows_of f v w k j x = branches f v (stop_at f w) w.from k j (w.first + x + 1)

-- and all the slots after it
abbrev pub rows_at : Pattern → View → Window → ℕ → ℕ → List (List ℕ)
rows_at f v w j = rows_of f v w (f.count - 1 - j) j

-- the entries of slot j and the slots after it
pub record Tabled (f : Pattern) (v : View) (w : Window) (j : ℕ) (N : List ℕ) : Type 0 where
  pub next : (a : ℕ) → j ≤ a → a < f.count → (i : ℕ) → i ≤ size f w a → NextRows (rows_at f v w a) (size f w a) i (slice_index N (a * 20001 + i))
