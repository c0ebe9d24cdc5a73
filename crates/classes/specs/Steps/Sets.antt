-- Sets of class bytes, as four numbers of 64 bits.
use Rattle.std.specs.Prelude.{ℕ, ◌/◌, ◌%◌, ◌<◌, ◌≡◌, Bool, List, [], ◌∷◌, get_or}
use Rattle.std.specs.Int.Bits.{bit_and, bit_or, bit_xor}
use Rattle.classes.specs.Trees.{Tree, bit, meets}
use Rattle.classes.specs.declared.sets.ClassSet.{ClassSet}

-- the four numbers
abbrev pub numbers : ClassSet → List ℕ
numbers v = v.0

-- the class byte c is in the set of these numbers
unfoldable pub contains : List ℕ → ℕ → Bool
contains ns c = bit (get_or ns (c / 64) 0) (c % 64)

-- the set of the class bytes that have the bit k
pub record LetterSet (k : ℕ) (v : ClassSet) : Type 0 where
  pub entry : (c : ℕ) → c < 256 → contains (numbers v) c ≡ bit c k

-- the set of these numbers is that of the class bytes that meet the expression
pub record MetBy (t : Tree) (ns : List ℕ) : Type 0 where
  pub entry : (c : ℕ) → c < 256 → meets t c ≡ contains ns c

-- what holds of each of the four numbers of two sets, with that of a third
pub record EachNumber (P : ℕ → ℕ → ℕ → Type 0) (v w r : ClassSet) : Type 0 where
  pub four : numbers r ≡ get_or (numbers r) 0 0 ∷ get_or (numbers r) 1 0 ∷ get_or (numbers r) 2 0 ∷ get_or (numbers r) 3 0 ∷ []
  pub entry : (i : ℕ) → i < 4 → P (get_or (numbers v) i 0) (get_or (numbers w) i 0) (get_or (numbers r) i 0)

-- an operation on each of the four numbers
abbrev pub each_number : (ℕ → ℕ → ℕ) → ClassSet → ClassSet → ClassSet
each_number op v w = record {
  0 = op (get_or (numbers v) 0 0) (get_or (numbers w) 0 0)
      ∷ op (get_or (numbers v) 1 0) (get_or (numbers w) 1 0)
      ∷ op (get_or (numbers v) 2 0) (get_or (numbers w) 2 0)
      ∷ op (get_or (numbers v) 3 0) (get_or (numbers w) 3 0)
      ∷ [];
}

-- 64 bits
abbrev pub all : ℕ
all = 18446744073709551615

-- all class bytes
abbrev pub everything : ClassSet
everything = record { 0 = all ∷ all ∷ all ∷ all ∷ [] }

-- the class bytes that are not in the set
abbrev pub complement : ClassSet → ClassSet
complement v = each_number bit_xor v everything

-- the class bytes that are in both
abbrev pub intersection : ClassSet → ClassSet → ClassSet
intersection = each_number bit_and

-- the class bytes that are in either
abbrev pub union : ClassSet → ClassSet → ClassSet
union = each_number bit_or
