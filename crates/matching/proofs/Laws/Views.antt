-- A view that is no plain text: each word has another reading. What is proved of views holds of it as it stands.
use Rattle.std.specs.Prelude.{ℕ, ◌||◌, List, length}
use Rattle.pattern.specs.declared.Pattern.{Pattern}
use Rattle.pattern.specs.Accepted.{AcceptedInput}
use Rattle.matching.specs.Occurrence.{View, plain}
use Rattle.matching.specs.Lists.{leftmost_in, rightmost_in}
use Rattle.matching.specs.Largest.{LargestIn}
use Rattle.matching.proofs.Laws.Largest.{largest}

module _ (f : Pattern) (t other : List ℕ) where
  -- a slot fits a place where it takes one of the two readings
  abbrev pub possible : View
  possible = record { places = length t; fits = λ j p. (plain f t).fits j p || (plain f other).fits j p; ends = (plain f t).ends }

  pub possible-largest : AcceptedInput f (length t) → LargestIn f possible (leftmost_in f possible) (rightmost_in f possible)
  possible-largest ok = largest ok
