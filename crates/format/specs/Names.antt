-- The names that stand on a line, in any order.
use Rattle.std.specs.Prelude.{ℕ, suc, List, [], ◌∷◌, Bool, false, length, ltb, eqb}
use Rattle.basics.specs.Choice.{pick}
use Rattle.format.specs.Bytes.{fields, same}
use Rattle.format.specs.declared.names.Columns.{Columns}

-- `word`
abbrev pub word_name : List ℕ
word_name = 119 ∷ 111 ∷ 114 ∷ 100 ∷ []

-- `least`
abbrev pub least_name : List ℕ
least_name = 108 ∷ 101 ∷ 97 ∷ 115 ∷ 116 ∷ []

-- `most`
abbrev pub most_name : List ℕ
most_name = 109 ∷ 111 ∷ 115 ∷ 116 ∷ []

-- `low`
abbrev pub low_name : List ℕ
low_name = 108 ∷ 111 ∷ 119 ∷ []

-- `high`
abbrev pub high_name : List ℕ
high_name = 104 ∷ 105 ∷ 103 ∷ 104 ∷ []

-- `words`
abbrev pub words_name : List ℕ
words_name = 119 ∷ 111 ∷ 114 ∷ 100 ∷ 115 ∷ []

-- where a name stands among the fields, from 0, or how many fields there are
unfoldable pub column : List (List ℕ) → List ℕ → ℕ
column [] name = 0
column (f ∷ fs) name = pick (same f name) 0 (suc (column fs name))

-- the line has the names `least` and `most`, and nothing else
abbrev pub span_names : List ℕ → Bool
span_names l =
    pick (eqb (length (fields l)) 2)
    (pick (ltb (column (fields l) least_name) 2) (ltb (column (fields l) most_name) 2) false)
    false

-- the line has the names `low`, `high` and `words`, and nothing else
abbrev pub slot_names : List ℕ → Bool
slot_names l =
    pick (eqb (length (fields l)) 3)
    (pick (ltb (column (fields l) low_name) 3)
    (pick (ltb (column (fields l) high_name) 3) (ltb (column (fields l) words_name) 3) false)
    false)
    false

-- where the three names of the line stand
abbrev pub columns_of : List ℕ → Columns
columns_of l = record { low = column (fields l) low_name; high = column (fields l) high_name; words = column (fields l) words_name }
