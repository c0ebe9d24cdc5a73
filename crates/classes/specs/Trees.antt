-- What an expression of word classes means (document 02, Job 9): a tree, and which class bytes meet it.
use Rattle.std.specs.Prelude.{ℕ, ◌/◌, ◌%◌, ◌^◌, Bool, not, ◌&&◌, ◌||◌, eqb}

-- a letter is its bit, 0 for a to 7 for h
pub data Tree : Type 0 where
  letter : ℕ → Tree
  negation : Tree → Tree
  both : Tree → Tree → Tree
  either : Tree → Tree → Tree

-- the number has the bit k, 0 the lowest
abbrev pub bit : ℕ → ℕ → Bool
bit n k = eqb (n / 2 ^ k % 2) 1

-- the class byte c meets the expression
unfoldable pub meets : Tree → ℕ → Bool
meets (letter k) c = bit c k
meets (negation t) c = not (meets t c)
meets (both t u) c = meets t c && meets u c
meets (either t u) c = meets t c || meets u c
