-- Definitions 3 and 4 of document 004, and the rule on sentences: when a row of places is an occurrence of a pattern in a text, and when two
-- rows overlap.
-- An occurrence is said of whatever can be seen of a text at its places; the text itself is one such view.
use Rattle.std.specs.Prelude.{ℕ, ◌+◌, ◌-◌, ◌≤◌, ◌<◌, List, Bool, true, false, ◌≡◌, length, get_or, eqb}
use Rattle.pattern.specs.declared.slot.Slot.{Slot}
use Rattle.pattern.specs.declared.Pattern.{Pattern}
use Rattle.pattern.specs.Patterns.{takes, slot_at}

-- the word at a place; places run from 1
abbrev pub word_at : List ℕ → ℕ → ℕ
word_at t p = get_or t (p - 1) 0

-- the slot takes the word at the place
abbrev pub takes_at : Slot → List ℕ → ℕ → Bool
takes_at s t p = takes s (word_at t p)

-- a sentence ends at the place: its word is 0
abbrev pub ends_at : List ℕ → ℕ → Bool
ends_at t p = eqb (word_at t p) 0

-- what is seen of a text, with a pattern in hand: how many places there are, which slot fits which place, and where sentences end
pub record View : Type 0 where
  pub places : ℕ
  -- slot j, counted from 0, fits place p
  pub fits : ℕ → ℕ → Bool
  -- a sentence ends at place p
  pub ends : ℕ → Bool

-- the text as it stands: a slot fits the places whose words it takes, and a sentence ends at each 0
abbrev pub plain : Pattern → List ℕ → View
plain f t = record { places = length t; fits = λ j p. takes_at (slot_at f j) t p; ends = ends_at t }

-- the place of a row at slot j, counted from 0
abbrev pub at : List ℕ → ℕ → ℕ
at r j = get_or r j 0

-- no sentence ends strictly between the places p and q
abbrev pub Unbroken : (ℕ → Bool) → ℕ → ℕ → Type 0
Unbroken ends p q = (x : ℕ) → p < x → x < q → ends x ≡ false

-- ---- Definition 3, condition by condition

-- the place is one that is seen, and slot j fits it
pub record PlaceFitsIn (v : View) (j place : ℕ) : Type 0 where
  pub inside : (1 ≤ place) × (place ≤ v.places)
  pub fit : v.fits j place ≡ true

-- word: each place is in the text, and its word is one that the slot takes
abbrev pub WordIn : Pattern → View → List ℕ → Type 0
WordIn f v r = (j : ℕ) → j < f.count → PlaceFitsIn v j (at r j)

-- the gap before slot j + 1, between its place and the one before, has low to high words
abbrev pub GapFits : Pattern → List ℕ → ℕ → Type 0
GapFits f r j = (at r j + (slot_at f (j + 1)).low + 1 ≤ at r (j + 1)) × (at r (j + 1) ≤ at r j + (slot_at f (j + 1)).high + 1)

-- gap: each gap has low to high words
abbrev pub Gap : Pattern → List ℕ → Type 0
Gap f r = (j : ℕ) → j + 1 < f.count → GapFits f r j

-- span: from the first place to the last there are least to most words
abbrev pub Span : Pattern → List ℕ → Type 0
Span f r = (at r 0 + f.least ≤ at r (f.count - 1) + 1) × (at r (f.count - 1) + 1 ≤ at r 0 + f.most)

-- sentence, beyond that definition (document 02, Job 1): none ends strictly between the first place and the last
abbrev pub SentenceIn : Pattern → View → List ℕ → Type 0
SentenceIn f v r = Unbroken v.ends (at r 0) (at r (f.count - 1))

-- an occurrence (document 01: hit): a row of a place for each slot, of which all four hold
pub record OccursIn (f : Pattern) (v : View) (r : List ℕ) : Type 0 where
  pub size : length r ≡ f.count
  pub word : WordIn f v r
  pub gap : Gap f r
  pub span : Span f r
  pub sentence : SentenceIn f v r

-- an occurrence in a text
abbrev pub Occurs : Pattern → List ℕ → List ℕ → Type 0
Occurs f t r = OccursIn f (plain f t) r

-- Definition 4: two rows of m places are apart where at no slot their places are equal (document 01: they do not clash).
-- The same place at different slots is no overlap.
unfoldable pub Apart : ℕ → List ℕ → List ℕ → Type 0
Apart m r s = (j : ℕ) → j < m → at r j ≡ at s j → ⊥
