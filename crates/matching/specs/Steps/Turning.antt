-- A pattern, a text and a row read from the end, as the searches make them.
use Rattle.std.specs.Prelude.{ℕ, ◌+◌, ◌-◌, ◌≤◌, ◌<◌, List, map, reverse, Bool, true, false, ◌≡◌, length}
use Rattle.pattern.specs.declared.slot.Slot.{Slot}
use Rattle.pattern.specs.declared.Pattern.{Pattern}
use Rattle.pattern.specs.Patterns.{takes, slot_at}
use Rattle.matching.specs.Occurrence.{View, takes_at, ends_at, at}

-- the text as it is read: from its end where it is mirrored
abbrev pub seen : Bool → List ℕ → List ℕ
seen true t = reverse t
seen false t = t

-- what a search for the pattern g sees of the text
abbrev pub viewed : Bool → Pattern → List ℕ → View
viewed mirrored g t = record { places = length t; fits = λ j p. takes_at (slot_at g j) (seen mirrored t) p; ends = ends_at (seen mirrored t) }

-- the row, read from the end of a text of n words
unfoldable pub flip : ℕ → List ℕ → List ℕ
flip n r = map (λ p. n + 1 - p) (reverse r)

-- the gap before slot j of m, read from the end, is that before slot r
pub record Gap (m j r : ℕ) : Type 0 where
  pub back : 0 < j → r + j ≡ m
  pub inside : r < m

-- the slot s stands at j in the pattern f read from the end
pub record TurnedSlot (f : Pattern) (j : ℕ) (s : Slot) : Type 0 where
  pub words : (i : ℕ) → i + j + 1 ≡ f.count → (w : ℕ) → takes s w ≡ takes (slot_at f i) w
  pub low : (i : ℕ) → i + j ≡ f.count → 0 < j → s.low ≡ (slot_at f i).low
  pub high : (i : ℕ) → i + j ≡ f.count → 0 < j → s.high ≡ (slot_at f i).high

-- g is the pattern f read from the end
pub record Turned (f g : Pattern) : Type 0 where
  pub count : g.count ≡ f.count
  pub least : g.least ≡ f.least
  pub most : g.most ≡ f.most
  pub slot : (j : ℕ) → j < f.count → TurnedSlot f j (slot_at g j)

-- r is the row of m places, read from the end of a text of n words, and 0 past them
pub record Flipped (m n : ℕ) (row r : List ℕ) : Type 0 where
  pub size : length r ≡ 16
  pub turn : (i j : ℕ) → i + j + 1 ≡ m → at r j ≡ n + 1 - at row i
  pub rest : (j : ℕ) → m ≤ j → at r j ≡ 0
