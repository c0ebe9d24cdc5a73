-- The layout of a file's lines of values: they are looked at one by one, and the first that is wrong is told.
use Rattle.std.specs.Prelude.{ℕ, ◌+◌, List, [], ◌∷◌, Bool, Err, Ok, Result}
use Rattle.basics.specs.Choice.{pick}

-- how many lines there are where all are right, or how many stand before the first that is wrong
abbrev pub Layout : Type 0
Layout = Result ℕ ℕ

-- the lines, from the (n + 1)-th on, pass the test `ok` one by one, and none is left open
unfoldable pub scan : List (List ℕ) → (List ℕ → Bool) → Bool → ℕ → Layout
scan [] ok closed n = pick closed (Ok n) (Err n)
scan (l ∷ ls) ok closed n = pick (ok l) (scan ls ok closed (n + 1)) (Err n)
