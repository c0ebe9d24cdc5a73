-- Bytes, cut at a byte: the lines of a file, the fields of a line, the numbers between commas; a number in base ten.
use Rattle.std.specs.Prelude.{ℕ, suc, ◌+◌, ◌-◌, ◌*◌, List, [], ◌∷◌, Option, Some, None, Bool, true, false, length, get_or, ltb, leb, eqb}
use Rattle.basics.specs.Choice.{pick}

-- ---- cutting

-- the index of the first `sep`, or the length
unfoldable pub cut : List ℕ → ℕ → ℕ
cut [] sep = 0
cut (b ∷ s) sep = pick (eqb b sep) 0 (suc (cut s sep))

-- b at the front of the first list, where there is one
abbrev pub on_first : List (List ℕ) → ℕ → List (List ℕ)
on_first [] b = []
on_first (l ∷ ls) b = (b ∷ l) ∷ ls

-- the lines that are closed by byte 10, each without it
unfoldable pub lines : List ℕ → List (List ℕ)
lines [] = []
lines (b ∷ s) = pick (eqb b 10) ([] ∷ lines s) (on_first (lines s) b)

-- the last byte, of those after the byte p, is byte 10: no line is left open
unfoldable pub ended : List ℕ → ℕ → Bool
ended [] p = eqb p 10
ended (b ∷ s) p = ended s b

-- what stands between the bytes `sep`: one part more than there are such bytes
unfoldable pub parts : List ℕ → ℕ → List (List ℕ)
parts [] sep = [] ∷ []
parts (b ∷ s) sep = pick (eqb b sep) ([] ∷ parts s sep) (on_first (parts s sep) b)

-- the fields of a line, which single spaces part
abbrev pub fields : List ℕ → List (List ℕ)
fields l = parts l 32

-- one of them, from 0; nothing past the last
abbrev pub field : List ℕ → ℕ → List ℕ
field l k = get_or (parts l 32) k []

-- the bytes are the same
unfoldable pub same : List ℕ → List ℕ → Bool
same [] [] = true
same [] (y ∷ ys) = false
same (x ∷ xs) [] = false
same (x ∷ xs) (y ∷ ys) = pick (eqb x y) (same xs ys) false

-- ---- numbers

-- what bytes that are no number count as
abbrev pub no_number : ℕ
no_number = 65536

-- the number v with the digits s after it
unfoldable pub more : List ℕ → ℕ → ℕ
more [] v = v
more (b ∷ s) v =
    pick (ltb b 48) no_number
    (pick (ltb 57 b) no_number
    (pick (ltb 65535 (v * 10 + (b - 48))) no_number
    (more s (v * 10 + (b - 48)))))

-- a number in base ten, at most 65535, with no needless 0 before it
unfoldable pub decimal : List ℕ → ℕ
decimal [] = no_number
decimal (b ∷ s) = pick (eqb b 48) (pick (eqb (length s) 0) 0 no_number) (more (b ∷ s) 0)

-- the bytes are such a number
abbrev pub is_number : List ℕ → Bool
is_number l = leb (decimal l) 65535

-- the number, where the bytes are one
abbrev pub number : List ℕ → Option ℕ
number s = pick (is_number s) (Some (decimal s)) None

-- the number, or 0 for what is none
unfoldable pub value : List ℕ → ℕ
value s = pick (leb (decimal s) 65535) (decimal s) 0

-- every one is a number
unfoldable pub all_numbers : List (List ℕ) → Bool
all_numbers [] = true
all_numbers (p ∷ ps) = pick (is_number p) (all_numbers ps) false
