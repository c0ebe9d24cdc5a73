-- A slot's words one by one, as they are printed.
use Rattle.std.specs.Prelude.{ℕ, List, [], ◌∷◌, ◌++◌, eqb}
use Rattle.basics.specs.Choice.{pick}
use Rattle.format.specs.Shown.{digits}

-- word number i, counted from 0, with a comma before all but the first
abbrev pub word_text : ℕ → ℕ → List ℕ
word_text i w = pick (eqb i 0) [] (44 ∷ []) ++ digits w
