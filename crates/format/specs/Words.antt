-- The field of a slot's words: numbers between commas. `!` (byte 33) stands before those of an excluding slot, which may have none
-- (document 02, Job 2).
use Rattle.std.specs.Prelude.{ℕ, List, [], ◌∷◌, Bool, get_or, drop, eqb}
use Rattle.basics.specs.Choice.{pick}
use Rattle.format.specs.Bytes.{parts, same}

-- the field begins with `!`
abbrev pub marked : List ℕ → Bool
marked s = eqb (get_or s 0 0) 33

-- the field is `!` alone
abbrev pub bare : List ℕ → Bool
bare s = same s (33 ∷ [])

-- the field without its `!`
abbrev pub unmarked : List ℕ → List ℕ
unmarked s = pick (marked s) (drop 1 s) s

-- its words, one by one
unfoldable pub word_parts : List ℕ → List (List ℕ)
word_parts s = pick (bare s) [] (parts (unmarked s) 44)
