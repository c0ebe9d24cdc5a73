-- A slot as twelve numbers, for who reads many of its words: the two bounds of its gap, its mark, how many words it states, and its
-- eight words.
use Rattle.std.specs.Prelude.{ℕ, min, Bool, false, ◌≡◌, List, ◌∷◌, length, get_or, take, drop, ltb, eqb}
use Rattle.pattern.specs.declared.slot.Slot.{Slot}
use Rattle.pattern.specs.Patterns.{member, taken}
use Rattle.basics.specs.Choice.{pick}

-- the mark as a number: 1 for an excluding slot, else 0
abbrev pub mark_number : Bool → ℕ
mark_number excluding = pick excluding 1 0

-- l has the twelve numbers of the slot
pub record Numbers (s : Slot) (l : List ℕ) : Type 0 where
  pub is : l ≡ s.low ∷ s.high ∷ mark_number s.excluding ∷ min s.count 8 ∷ s.words
  pub eight : length s.words ≡ 8

-- a slot with such numbers takes the word; fewer numbers take none
unfoldable pub numbers_take : List ℕ → ℕ → Bool
numbers_take l w = pick (ltb (length l) 12) false (taken (eqb (get_or l 2 0) 1) w (member w (take (get_or l 3 0) (take 8 (drop 4 l)))))
