-- What a list holds once numbers or rows of places have been written into it.
use Rattle.std.specs.Prelude.{ℕ, ◌*◌, List, [], ◌∷◌, ◌++◌, length, take, drop, ltb}
use Rattle.basics.specs.Choice.{pick}

-- numbers over the start of the list; the rest of it is as it was
abbrev pub over : List ℕ → List ℕ → List ℕ
over l ns = ns ++ drop (length ns) l

-- the first n places of a row over the start of the list, which stays as it was where the row or the list has fewer
abbrev pub row_over : ℕ → List ℕ → List ℕ → List ℕ
row_over n row l = pick (ltb (length row) n) l (pick (ltb (length l) n) l (take n row ++ drop n l))

-- how many rows that is
abbrev pub rows_over : ℕ → List ℕ → List ℕ → ℕ
rows_over n row l = pick (ltb (length row) n) 0 (pick (ltb (length l) n) 0 1)

-- the rows one after the other
unfoldable pub flat : List (List ℕ) → List ℕ
flat [] = []
flat (r ∷ R) = r ++ flat R

-- the rows of m places from the start of the list on: row k begins at (k - 1) * m. The rest of the list is as it was.
abbrev pub written : ℕ → List (List ℕ) → List ℕ → List ℕ
written m R l = flat R ++ drop (length R * m) l
