-- Numbers in base ten, as bytes.
use Rattle.std.specs.Prelude.{ℕ, zero, suc, ◌+◌, ◌*◌, ◌/◌, ◌%◌, List, [], ◌∷◌, ◌++◌, ltb}
use Rattle.basics.specs.Choice.{pick}

-- a number's digits in base ten, at most f + 1 of them
unfoldable pub digits_in : ℕ → ℕ → List ℕ
digits_in zero n = (48 + n) ∷ []
digits_in (suc f) n = pick (ltb n 10) ((48 + n) ∷ []) (digits_in f (n / 10) ++ ((48 + n % 10) ∷ []))

-- a bound on a number of f + 1 digits
abbrev pub ten : ℕ → ℕ
ten zero = 10
ten (suc f) = 10 * ten f
