-- Rows of numbers over a window: for each of its places, how many rows of places go on from there.
use Rattle.std.specs.Prelude.{◌≡◌, ℕ, ◌+◌, ◌-◌, ◌<◌, ◌≤◌, min, Bool, ◌&&◌, List, length, nat_le}
use Rattle.pattern.specs.declared.Pattern.{Pattern}
use Rattle.matching.specs.Occurrence.{View}
use Rattle.matching.specs.Occurrences.{starting_in}
use Rattle.basics.specs.Sums.{total}
use Rattle.basics.specs.Choice.{when}
use Rattle.matching.specs.Branches.{ways}
use Rattle.matching.specs.Spans.{far}
use Rattle.counting.specs.declared.window.Window.{Window}
use Rattle.counting.specs.Steps.Numbers.{val}
use Rattle.counting.specs.Steps.Fits.{fitted}

-- room for n numbers and one more, and every number is 0
pub record Blank (n : ℕ) (N : List ℕ) : Type 0 where
  pub room : n < length N
  pub zero : (i : ℕ) → val N i ≡ 0

-- what is written for a number of a row: itself, or the sum of those up to it
unfoldable pub kept : Bool → (ℕ → ℕ) → ℕ → ℕ
kept summed v i = when summed (total i v 0) + v i

-- the numbers rise, or stay, from place to place
pub record Rising (n : ℕ) (N : List ℕ) : Type 0 where
  pub rises : (a b : ℕ) → a ≤ b → b < n → val N a ≤ val N b

-- ---- one slot's row, by which of its places the slot fits

-- the last slot's number at an index, of the places from `first` + 1 on
abbrev pub ending : List ℕ → ℕ → ℕ → ℕ → ℕ
ending T first from i = when (fitted T i && nat_le from (first + i + 1)) 1

-- a slot's number at an index, from the sums of the next slot's row of m
abbrev pub onward : List ℕ → ℕ → ℕ → ℕ → List ℕ → ℕ → ℕ
onward T low high m N i = when (fitted T i) (val N (min (i + high + 1) (m - 1)) - val N (min (i + low) (m - 1)))

-- the last slot's row
pub record Ended (T : List ℕ) (first from : ℕ) (summed : Bool) (N : List ℕ) : Type 0 where
  pub row : (i : ℕ) → i < length T → val N i ≡ kept summed (ending T first from) i

-- a slot's row
pub record Spread (T : List ℕ) (low high m : ℕ) (summed : Bool) (N N' : List ℕ) : Type 0 where
  pub row : (i : ℕ) → i < length T → val N' i ≡ kept summed (onward T low high m N) i

-- ---- of a window

-- how many of its places slot j can stand at, where rows start at its first ones
unfoldable pub size : Pattern → Window → ℕ → ℕ
size f w j = min w.places (w.starts + far f j)

-- the place after the last of them
unfoldable pub stop_at : Pattern → Window → ℕ → ℕ
stop_at f w j = w.first + size f w j + 1

-- the row of slot j, with k slots after it
pub record Row (f : Pattern) (v : View) (w : Window) (k j : ℕ) (N : List ℕ) : Type 0 where
  pub row : (i : ℕ) → i < size f w j → val N i ≡ ways f v (stop_at f w) w.from k j (w.first + i + 1)
  pub stop : val N (size f w j) ≡ 0

-- ---- of a text

-- how many occurrences start at each place
pub record Column (f : Pattern) (v : View) (N : List ℕ) : Type 0 where
  pub starts : (i : ℕ) → i < v.places → val N i ≡ length (starting_in f v (i + 1))
