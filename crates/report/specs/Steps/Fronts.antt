-- What the report of the tally is given.
use Rattle.std.specs.Prelude.{ℕ, ◌*◌, ◌≤◌, ◌≡◌, List, length, Ok}
use Rattle.basics.specs.Written.{flat}
use Rattle.pattern.specs.declared.Pattern.{Pattern}
use Rattle.pattern.specs.Tests.{input_verdict}
use Rattle.matching.specs.Lists.{leftmost}

-- the front list, of so many rows, is found and fits
pub record Fronted (f : Pattern) (t : List ℕ) (rows : ℕ) (front : List ℕ) : Type 0 where
  pub accepted : input_verdict f (length t) ≡ Ok tt
  pub count : rows ≡ length (leftmost f t)
  pub room : rows * f.count ≤ 16000
  pub places : front ≡ flat (leftmost f t)
