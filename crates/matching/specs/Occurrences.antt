-- The test of an occurrence, condition by condition; and all occurrences of a pattern in a text, each once, first place first, ties by the
-- next slot (document 01: the full list). Their number is the tally.
use Rattle.std.specs.Prelude.{ℕ, zero, suc, ◌+◌, ◌-◌, ◌<◌, Bool, true, not, ◌&&◌, List, [], ◌∷◌, ◌++◌, map, length, leb, eqb}
use Rattle.pattern.specs.declared.Pattern.{Pattern}
use Rattle.pattern.specs.Patterns.{slot_at}
use Rattle.matching.specs.Occurrence.{View, plain, at}
use Rattle.basics.specs.Collections.{select}

-- ---- the test of an occurrence

-- x lies within low to high
unfoldable pub within : ℕ → ℕ → ℕ → Bool
within low x high = leb low x && leb x high

-- the test holds of each number below n
unfoldable pub each : ℕ → (ℕ → Bool) → Bool
each zero p = true
each (suc n) p = p n && each n p

-- no sentence ends strictly between the places p and q
unfoldable pub unbroken : (ℕ → Bool) → ℕ → ℕ → Bool
unbroken ends p q = each (q - p - 1) (λ i. not (ends (p + i + 1)))

-- the place is one that is seen, and slot j fits it
unfoldable pub place_fits_in : View → ℕ → ℕ → Bool
place_fits_in v j place = within 1 place v.places && v.fits j place

-- word: each place is in the text, and its word is one that the slot takes
unfoldable pub word_in : Pattern → View → List ℕ → Bool
word_in f v r = each f.count (λ j. place_fits_in v j (at r j))

-- the gap before slot j + 1, between its place and the one before, has low to high words
unfoldable pub gap_fits : Pattern → List ℕ → ℕ → Bool
gap_fits f r j = within (at r j + (slot_at f (j + 1)).low + 1) (at r (j + 1)) (at r j + (slot_at f (j + 1)).high + 1)

-- gap: each gap has low to high words
unfoldable pub gap : Pattern → List ℕ → Bool
gap f r = each (f.count - 1) (gap_fits f r)

-- span: from the first place to the last there are least to most words
unfoldable pub span : Pattern → List ℕ → Bool
span f r = within (at r 0 + f.least) (at r (f.count - 1) + 1) (at r 0 + f.most)

-- sentence: none ends strictly between the first place and the last
unfoldable pub sentence_in : Pattern → View → List ℕ → Bool
sentence_in f v r = unbroken v.ends (at r 0) (at r (f.count - 1))

-- the row is an occurrence: it has a place for each slot, and all four hold
unfoldable pub occurs_in : Pattern → View → List ℕ → Bool
occurs_in f v r = eqb (length r) f.count && word_in f v r && gap f r && span f r && sentence_in f v r

-- in a text
abbrev pub word : Pattern → List ℕ → List ℕ → Bool
word f t r = word_in f (plain f t) r

abbrev pub sentence : Pattern → List ℕ → List ℕ → Bool
sentence f t r = sentence_in f (plain f t) r

abbrev pub occurs : Pattern → List ℕ → List ℕ → Bool
occurs f t r = occurs_in f (plain f t) r

-- ---- all rows of places, in lexicographic order

-- n places from p on
unfoldable pub places : ℕ → ℕ → List ℕ
places p zero = []
places p (suc n) = p ∷ places (suc p) n

-- a place of the list, then a row of the others
unfoldable pub extend : List ℕ → List (List ℕ) → List (List ℕ)
extend [] R = []
extend (p ∷ ps) R = map (λ r. p ∷ r) R ++ extend ps R

-- the rows of m of n places
unfoldable pub rows : ℕ → ℕ → List (List ℕ)
rows zero n = [] ∷ []
rows (suc m) n = extend (places 1 n) (rows m n)

-- lexicographic order: an earlier place at the first slot at which the rows differ
pub data Lex : List ℕ → List ℕ → Type 0 where
  here : {p q : ℕ} {r s : List ℕ} → p < q → Lex (p ∷ r) (q ∷ s)
  after : {p : ℕ} {r s : List ℕ} → Lex r s → Lex (p ∷ r) (p ∷ s)

-- ---- those that occur

-- all of them, in that order
unfoldable pub occurrences_in : Pattern → View → List (List ℕ)
occurrences_in f v = select (occurs_in f v) (rows f.count v.places)

-- in a text
abbrev pub occurrences : Pattern → List ℕ → List (List ℕ)
occurrences f t = occurrences_in f (plain f t)

-- those of the rows that start at the place p
abbrev pub starting_at : ℕ → List (List ℕ) → List (List ℕ)
starting_at p R = select (λ r. eqb (at r 0) p) R

-- of all occurrences, those that start at the place p
unfoldable pub starting_in : Pattern → View → ℕ → List (List ℕ)
starting_in f v p = starting_at p (occurrences_in f v)
