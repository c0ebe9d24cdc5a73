-- Numbers below 2 ^ 128, in a list.
use Rattle.std.specs.Prelude.{ℕ, List, slice_index}

-- the number at an index
abbrev pub val : List ℕ → ℕ → ℕ
val N i = slice_index N i
