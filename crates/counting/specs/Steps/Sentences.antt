-- The table of how far a row from each place can go: to where its sentence ends, or the text.
use Rattle.std.specs.Prelude.{◌≡◌, ℕ, ◌+◌, ◌<◌, ◌≤◌, List, length, slice_index}
use Rattle.matching.specs.Occurrence.{View}
use Rattle.matching.specs.Spans.{horizon}

-- an entry for each place
pub record Horizons (v : View) (E : List ℕ) : Type 0 where
  pub size : v.places ≤ length E
  pub last : (i : ℕ) → i < v.places → slice_index E i ≡ horizon v (i + 1)
