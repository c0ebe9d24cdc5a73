-- What the conditions of an occurrence are asked of: a row with a place for each of the pattern's slots.
use Rattle.std.specs.Prelude.{ℕ, ◌≤◌, List, ◌≡◌, length}
use Rattle.pattern.specs.declared.Pattern.{Pattern}

-- the pattern has 1 to 16 slots, and the row a place for each
pub record Sized (f : Pattern) (row : List ℕ) : Type 0 where
  pub some : 1 ≤ f.count
  pub few : f.count ≤ 16
  pub size : length row ≡ f.count
