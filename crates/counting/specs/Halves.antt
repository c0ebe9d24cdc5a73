-- A number of occurrences in two halves of 64 bits (document 02, Job 8).
use Rattle.std.specs.Prelude.{ℕ, ◌+◌, ◌*◌, ◌/◌, ◌%◌, ◌^◌, List, [], ◌∷◌}

-- its high half
abbrev pub high : ℕ → ℕ
high n = n / 2 ^ 64

-- its low half
abbrev pub low : ℕ → ℕ
low n = n % 2 ^ 64

-- each number as its high and then its low half
unfoldable pub halves : List ℕ → List ℕ
halves [] = []
halves (n ∷ ns) = high n ∷ low n ∷ halves ns

-- the numbers that halves make, two by two
unfoldable pub wholes : List ℕ → List ℕ
wholes (h ∷ l ∷ ns) = (h * 2 ^ 64 + l) ∷ wholes ns
wholes (h ∷ []) = []
wholes [] = []
