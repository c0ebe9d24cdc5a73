-- The lines that are printed: names as document 01 has them, and numbers.
use Rattle.std.specs.Prelude.{ℕ, zero, suc, ◌+◌, ◌*◌, ◌/◌, ◌%◌, List, [], ◌∷◌, ◌++◌, map, length, get_or}
use Rattle.pattern.specs.Refusals.{number_of, place_of}
use Rattle.pattern.specs.declared.refusal.Refusal.{Refusal}
use Rattle.basics.specs.Written.{flat}
use Rattle.basics.specs.Digits.{digits_in}
use Rattle.format.specs.Shown.{closed, joined}

-- ---- names

-- `refused place`
abbrev pub refusal_names : List ℕ
refusal_names = 114 ∷ 101 ∷ 102 ∷ 117 ∷ 115 ∷ 101 ∷ 100 ∷ 32 ∷ 112 ∷ 108 ∷ 97 ∷ 99 ∷ 101 ∷ []

-- `count high low`
abbrev pub count_names : List ℕ
count_names = 99 ∷ 111 ∷ 117 ∷ 110 ∷ 116 ∷ 32 ∷ 104 ∷ 105 ∷ 103 ∷ 104 ∷ 32 ∷ 108 ∷ 111 ∷ 119 ∷ []

-- `row slot front back`
abbrev pub table_names : List ℕ
table_names = 114 ∷ 111 ∷ 119 ∷ 32 ∷ 115 ∷ 108 ∷ 111 ∷ 116 ∷ 32 ∷ 102 ∷ 114 ∷ 111 ∷ 110 ∷ 116 ∷ 32 ∷ 98 ∷ 97 ∷ 99 ∷ 107 ∷ []

-- ---- numbers

-- numbers of at most 20 digits, with single spaces between them
abbrev pub values : List ℕ → List ℕ
values ns = joined (map (digits_in 19) ns) 32

-- entry e of two lists of places, whose rows have m places: row and slot, counted from 1, and the two places
abbrev pub entry_line : ℕ → List ℕ → List ℕ → ℕ → List ℕ
entry_line m front back e = values ((e / m + 1) ∷ (e % m + 1) ∷ get_or front e 0 ∷ get_or back e 0 ∷ [])

-- the first n entries
unfoldable pub entry_lines : ℕ → List ℕ → List ℕ → ℕ → List (List ℕ)
entry_lines m front back zero = []
entry_lines m front back (suc n) = entry_lines m front back n ++ (entry_line m front back n ∷ [])

-- ---- a report

-- why the input is refused: the number and the place
abbrev pub refusal_report : Refusal → List ℕ
refusal_report why = closed (refusal_names ∷ values (number_of why ∷ place_of why ∷ []) ∷ [])

-- the count, the halves of the tally, and the places of n entries
abbrev pub table_report : ℕ → ℕ → ℕ → ℕ → List ℕ → List ℕ → ℕ → List ℕ
table_report count high low m front back n = closed (count_names ∷ values (count ∷ high ∷ low ∷ []) ∷ table_names ∷ entry_lines m front back n)

-- the front list and the back list, whose rows have m places
abbrev pub lists_report : ℕ → List (List ℕ) → List (List ℕ) → ℕ → ℕ → List ℕ
lists_report m front back high low = table_report (length front) high low m (flat front) (flat back) (length front * m)
