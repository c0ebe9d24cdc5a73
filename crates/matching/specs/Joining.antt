-- Two texts with a sentence end between them, so that a long corpus can be counted piece by piece: what is stated of the joined text.
use Rattle.std.specs.Prelude.{ℕ, ◌+◌, List, ◌∷◌, ◌++◌, map, ◌↔◌, ◌≡◌, length, Ok}
use Rattle.pattern.specs.declared.Pattern.{Pattern}
use Rattle.pattern.specs.Tests.{input_verdict}
use Rattle.matching.specs.Occurrence.{View, plain, OccursIn, Occurs}
use Rattle.matching.specs.Occurrences.{occurrences}
use Rattle.matching.specs.Lists.{leftmost}
use Rattle.matching.specs.Answers.{counted}

-- the row with n added to every place
abbrev pub shifted : ℕ → List ℕ → List ℕ
shifted n r = map (λ p. p + n) r

-- the row is an occurrence in v, or one in w that stands after the places of v and one more
pub data Lies (f : Pattern) (v w : View) : List ℕ → Type 0 where
  in_first : {r : List ℕ} → OccursIn f v r → Lies f v w r
  in_second : {r : List ℕ} → OccursIn f w r → Lies f v w (shifted (v.places + 1) r)

-- the meanings, for an accepted pattern and any two texts
pub record JoinedTexts (f : Pattern) (t u : List ℕ) : Type 0 where
  -- a row occurs in the joined text exactly if it lies in one of the two
  pub occurs : (r : List ℕ) → Occurs f (t ++ 0 ∷ u) r ↔ Lies f (plain f t) (plain f u) r
  -- all occurrences are those of the first text, then those of the second, shifted
  pub all : occurrences f (t ++ 0 ∷ u) ≡ occurrences f t ++ map (shifted (length t + 1)) (occurrences f u)
  -- and so is the front list
  pub front : leftmost f (t ++ 0 ∷ u) ≡ leftmost f t ++ map (shifted (length t + 1)) (leftmost f u)
  -- tally and support are sums
  pub tally : length (occurrences f (t ++ 0 ∷ u)) ≡ length (occurrences f t) + length (occurrences f u)
  pub support : length (leftmost f (t ++ 0 ∷ u)) ≡ length (leftmost f t) + length (leftmost f u)

-- the call, where the joined text passes the tests: what `support` answers for the two texts, and for it the sum
pub record SupportsAdd (f : Pattern) (t u : List ℕ) : Type 0 where
  pub first : ℕ
  pub second : ℕ
  pub of_first : counted (input_verdict f (length t)) (leftmost f t) ≡ Ok first
  pub of_second : counted (input_verdict f (length u)) (leftmost f u) ≡ Ok second
  pub of_joined : counted (input_verdict f (length (t ++ 0 ∷ u))) (leftmost f (t ++ 0 ∷ u)) ≡ Ok (first + second)
