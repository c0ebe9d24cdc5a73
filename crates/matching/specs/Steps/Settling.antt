-- What the steps of a search come to: a row that is only ever raised, and never past an occurrence, until it is one itself.
use Rattle.std.specs.Prelude.{ℕ, ◌+◌, ◌-◌, ◌≤◌, ◌<◌, Bool, List, [], ◌∷◌, true, false, ◌≡◌, length, take, Option, Some, None}
use Rattle.pattern.specs.declared.Pattern.{Pattern}
use Rattle.pattern.specs.Patterns.{slot_at}
use Rattle.matching.specs.Occurrence.{View, OccursIn, at}
use Rattle.matching.specs.Rows.{Before, NotAfter}
use Rattle.matching.specs.Searches.{EarliestIn, LatestIn}

-- what a search needs of a pattern and of the number of places
pub record Ready (f : Pattern) (n : ℕ) : Type 0 where
  pub some : 1 ≤ f.count
  pub few : f.count ≤ 16
  pub least : 1 ≤ f.least
  pub short : n ≤ 20000

-- the view as if no sentence ended
abbrev pub loose : View → View
loose v = record { places = v.places; fits = v.fits; ends = λ p. false }

-- what the other places ask of a place x at the slot j: each asks that x is not too small
pub record Bound (f : Pattern) (p : List ℕ) (j x : ℕ) : Type 0 where
  pub own : at p j ≤ x
  pub after : 0 < j → at p (j - 1) + (slot_at f j).low + 1 ≤ x
  pub before : j + 1 < f.count → at p (j + 1) ≤ x + (slot_at f (j + 1)).high + 1
  pub ends : j + 1 ≡ f.count → at p 0 + f.least ≤ x + 1
  pub starts : j ≡ 0 → at p (f.count - 1) + 1 ≤ x + f.most

-- r is the least place with that which the slot fits, or past the last place
pub record Visited (f : Pattern) (v : View) (p : List ℕ) (j r : ℕ) : Type 0 where
  pub bound : Bound f p j r
  pub hit : r ≤ v.places → v.fits j r ≡ true
  pub least : (x : ℕ) → Bound f p j x → v.fits j x ≡ true → r ≤ x

-- every place of the row of m slots is at least the first
abbrev pub Placed : ℕ → List ℕ → Type 0
Placed m p = (j : ℕ) → j < m → 1 ≤ at p j

-- the row has room for every slot, and 0 past its own m
pub record Spare (m : ℕ) (p : List ℕ) : Type 0 where
  pub size : length p ≡ 16
  pub rest : (j : ℕ) → m ≤ j → at p j ≡ 0

-- the list has its first k entries, and n words are no more than a text has
pub record Entries (k n : ℕ) (l : List ℕ) : Type 0 where
  pub inside : k ≤ length l
  pub short : n ≤ 20000

-- no occurrence is at or after the row p
abbrev pub Never : Pattern → View → List ℕ → Type 0
Never f v p = (q : List ℕ) → OccursIn f v q → NotAfter f.count p q → ⊥

-- how far a row can still be raised
unfoldable pub slack : List ℕ → ℕ
slack [] = 0
slack (x ∷ xs) = (20001 - x) + slack xs

-- the row q is the row p with some places raised, and no occurrence is left behind
pub record Raised (f : Pattern) (v : View) (p q : List ℕ) : Type 0 where
  pub size : length q ≡ 16
  pub above : NotAfter f.count p q
  pub rest : (j : ℕ) → f.count ≤ j → at q j ≡ at p j
  pub sound : (r : List ℕ) → OccursIn f v r → NotAfter f.count p r → NotAfter f.count q r

-- nothing asks more of the place at the slot j
pub record Stable (f : Pattern) (v : View) (p : List ℕ) (j : ℕ) : Type 0 where
  pub bound : Bound f p j (at p j)
  pub inside : at p j ≤ v.places
  pub fit : v.fits j (at p j) ≡ true

-- whether there is an occurrence, and then its places, 0 past the pattern's slots
pub record Answer : Type 0 where
  pub found : Bool
  pub places : List ℕ

-- an answer of a search that gives the places where there is one
abbrev pub answer_of : Option (List ℕ) → Answer
answer_of (Some places) = record { found = true; places = places }
answer_of None = record { found = false; places = [] }

-- the earliest occurrence at or after the row p
pub record Settled (f : Pattern) (v : View) (p : List ℕ) (a : Answer) : Type 0 where
  pub occurs : a.found ≡ true → OccursIn f v (take f.count a.places)
  pub size : a.found ≡ true → length a.places ≡ 16
  pub above : a.found ≡ true → NotAfter f.count p a.places
  pub rest : a.found ≡ true → (j : ℕ) → f.count ≤ j → at a.places j ≡ at p j
  pub first : a.found ≡ true → (q : List ℕ) → OccursIn f v q → NotAfter f.count p q → NotAfter f.count a.places q
  pub none : a.found ≡ false → (q : List ℕ) → OccursIn f v q → NotAfter f.count p q → ⊥

-- the row just past the marks, the same past the slots; or a mark at the text's end
pub record Started (m n : ℕ) (marks : List ℕ) (a : Answer) : Type 0 where
  pub past : a.found ≡ true → (j : ℕ) → j < m → at a.places j ≡ at marks j + 1
  pub rest : a.found ≡ true → (j : ℕ) → m ≤ j → at a.places j ≡ at marks j
  pub none : a.found ≡ false → (q : List ℕ) → Before m marks q → ((j : ℕ) → j < m → at q j ≤ n) → ⊥

-- ---- what a search answers

-- where it found something, the first m places are a row that is the nearest, and the others 0; else there is none
pub record Reported (m : ℕ) (Nearest : List ℕ → Type 0) (None : Type 0) (a : Answer) : Type 0 where
  pub some : a.found ≡ true → Nearest (take m a.places)
  pub size : a.found ≡ true → length a.places ≡ 16
  pub rest : a.found ≡ true → (j : ℕ) → m ≤ j → at a.places j ≡ 0
  pub none : a.found ≡ false → None

-- no occurrence is past the marks at every slot
abbrev pub NoneAfter : Pattern → View → List ℕ → Type 0
NoneAfter f v marks = (q : List ℕ) → OccursIn f v q → Before f.count marks q → ⊥

-- no occurrence is before the marks at every slot
abbrev pub NoneBefore : Pattern → View → List ℕ → Type 0
NoneBefore f v marks = (q : List ℕ) → OccursIn f v q → Before f.count q marks → ⊥

-- the earliest occurrence past the marks
abbrev pub Answered : Pattern → View → List ℕ → Answer → Type 0
Answered f v marks = Reported f.count (EarliestIn f v marks) (NoneAfter f v marks)

-- the latest occurrence before the marks
abbrev pub AnsweredBack : Pattern → View → List ℕ → Answer → Type 0
AnsweredBack f v marks = Reported f.count (LatestIn f v marks) (NoneBefore f v marks)

-- the row b has the places of a, and 0 past them
pub record Copied (a b : List ℕ) : Type 0 where
  pub size : length b ≡ 16
  pub same : (j : ℕ) → at b j ≡ at a j
