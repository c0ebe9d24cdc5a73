-- Two texts with a sentence end between them: what is stated of the tally of the joined text.
use Rattle.std.specs.Prelude.{◌≡◌, ℕ, ◌+◌, List, ◌∷◌, ◌++◌, Ok}
use Rattle.pattern.specs.declared.Pattern.{Pattern}
use Rattle.counting.specs.Answers.{tallied}

-- the call, where the joined text passes the tests: `tally` answers two numbers for the two texts, and for it their sum
pub record TalliesAdd (f : Pattern) (t u : List ℕ) : Type 0 where
  pub first : ℕ
  pub second : ℕ
  pub of_first : tallied f t ≡ Ok first
  pub of_second : tallied f u ≡ Ok second
  pub of_joined : tallied f (t ++ 0 ∷ u) ≡ Ok (first + second)
