-- Sets of class bytes, bit by bit: each operation on the four numbers is one on every class byte. Assumes nothing.
use Rattle.std.proofs.Common.{◌≡◌, ℕ, zero, suc, ◌+◌, ◌*◌, ◌/◌, ◌%◌, ◌^◌, ◌<◌, min, max, Bool, true, false, not, ◌&&◌, ◌||◌, eqb, List, [], ◌∷◌, get_or, bit_and, bit_or, bit_xor, sym, refl, ap, ◌∙◌, ap₂, mod-lt, add-one, arith, below_none, below_more, eqb-true}
use mathlib.Core.Bool.{and-eq-true_iff}
use lib.Arith.{digits_mod}
use lib.Bits.{differ, and_step, or_step, xor_step, and_shr, or_shr, xor_shr}
use Rattle.classes.specs.Trees.{Tree, negation, both, either, bit, meets}
use Rattle.classes.specs.Steps.Sets.{numbers, contains, LetterSet, MetBy, each_number, all, everything, complement, intersection, union}
use Rattle.classes.specs.declared.sets.ClassSet.{ClassSet}

-- ---- an operation on bits

-- what holds of each two of the digits 0 and 1
two_digits : (P : ℕ → ℕ → Type 0) → P 0 0 → P 0 1 → P 1 0 → P 1 1 → (x y : ℕ) → x < 2 → y < 2 → P x y
two_digits P a b c d zero zero h k = a
two_digits P a b c d zero (suc zero) h k = b
two_digits P a b c d (suc zero) zero h k = c
two_digits P a b c d (suc zero) (suc zero) h k = d
two_digits P a b c d (suc (suc x)) y h k = absurd (omega arith)
two_digits P a b c d zero (suc (suc y)) h k = absurd (omega arith)
two_digits P a b c d (suc zero) (suc (suc y)) h k = absurd (omega arith)

-- the operation goes digit by digit, as f on digits, which is g on bits
record Bitwise (op f : ℕ → ℕ → ℕ) (g : Bool → Bool → Bool) : Type 0 where
  step : (a b : ℕ) → op a b ≡ op (a / 2) (b / 2) * 2 + f (a % 2) (b % 2)
  shifted : (a b k : ℕ) → op a b / 2 ^ k ≡ op (a / 2 ^ k) (b / 2 ^ k)
  digit : (x y : ℕ) → x < 2 → y < 2 → (f x y < 2) × (eqb (f x y) 1 ≡ g (eqb x 1) (eqb y 1))

-- the bits differ
abbrev odd : Bool → Bool → Bool
odd a true = not a
odd a false = a

ands : Bitwise bit_and min ◌&&◌
ands = record { step = and_step; shifted = and_shr; digit = two_digits _ (omega arith, refl) (omega arith, refl) (omega arith, refl) (omega arith, refl) }

ors : Bitwise bit_or max ◌||◌
ors = record { step = or_step; shifted = or_shr; digit = two_digits _ (omega arith, refl) (omega arith, refl) (omega arith, refl) (omega arith, refl) }

xors : Bitwise bit_xor differ odd
xors = record { step = xor_step; shifted = xor_shr; digit = two_digits _ (omega arith, refl) (omega arith, refl) (omega arith, refl) (omega arith, refl) }

each_number_lem : (op : ℕ → ℕ → ℕ) (v w : ClassSet) (i : ℕ) → i < 4 → get_or (numbers (each_number op v w)) i 0 ≡ op (get_or (numbers v) i 0) (get_or (numbers w) i 0)
each_number_lem op v w zero h = refl
each_number_lem op v w (suc zero) h = refl
each_number_lem op v w (suc (suc zero)) h = refl
each_number_lem op v w (suc (suc (suc zero))) h = refl
each_number_lem op v w (suc (suc (suc (suc i)))) h = absurd (omega arith)

module _ {op f : ℕ → ℕ → ℕ} {g : Bool → Bool → Bool} (B : Bitwise op f g) where
  bit_of : (a b k : ℕ) → bit (op a b) k ≡ g (bit a k) (bit b k)
  bit_of a b k =
      let d = B.digit (a / 2 ^ k % 2) (b / 2 ^ k % 2) (mod-lt _ (omega arith)) (mod-lt _ (omega arith)) in
      ap (λ (x : ℕ). eqb (x % 2) 1) (B.shifted a b k ∙ B.step (a / 2 ^ k) (b / 2 ^ k)) ∙ ap (λ (x : ℕ). eqb x 1) (digits_mod _ d.0) ∙ d.1

  -- the operation on the four numbers is one on every class byte
  contains_of : (v w : ClassSet) (c : ℕ) → c < 256 → contains (numbers (each_number op v w)) c ≡ g (contains (numbers v) c) (contains (numbers w) c)
  unfolding contains
  contains_of v w c h = ap (λ (x : ℕ). bit x (c % 64)) (each_number_lem op v w (c / 64) (omega arith)) ∙ bit_of (get_or (numbers v) (c / 64) 0) (get_or (numbers w) (c / 64) 0) (c % 64)

-- ---- the sets of the parts of an expression

module _ {t u : Tree} {v w : ClassSet} (m : MetBy t (numbers v)) (n : MetBy u (numbers w)) where
  pub met_and : MetBy (both t u) (numbers (intersection v w))
  unfolding meets
  met_and = record { entry = λ c h. ap₂ ◌&&◌ (m.entry c h) (n.entry c h) ∙ sym (contains_of ands v w c h) }

  pub met_or : MetBy (either t u) (numbers (union v w))
  unfolding meets
  met_or = record { entry = λ c h. ap₂ ◌||◌ (m.entry c h) (n.entry c h) ∙ sym (contains_of ors v w c h) }

-- ---- a test that is computed at every number below a limit

abbrev passes : (ℕ → Bool) → ℕ → Bool
passes f zero = true
passes f (suc n) = f n && passes f n

passed : (f : ℕ → Bool) (n : ℕ) → passes f n ≡ true → (k : ℕ) → k < n → f k ≡ true
passed f zero e = below_none _
passed f (suc n) e = let h = (and-eq-true_iff (f n) (passes f n)).0 e in rw (sym (add-one n)) (below_more _ n (passed f n h.1) h.0)

all_in : (c : ℕ) → c < 256 → contains (numbers everything) c ≡ true
unfolding contains
all_in c h = passed (λ k. contains (numbers everything) k) 256 refl c h

pub met_not : {t : Tree} {v : ClassSet} → MetBy t (numbers v) → MetBy (negation t) (numbers (complement v))
unfolding meets
met_not {t} {v} m = record {
  entry = λ c h. ap not (m.entry c h) ∙ sym (contains_of xors v everything c h ∙ ap (λ (b : Bool). odd (contains (numbers v) c) b) (all_in c h));
}

-- ---- the letters' sets

-- a number in each quarter
abbrev quarters : ℕ → List ℕ
quarters n = n ∷ n ∷ n ∷ n ∷ []

-- the table of the letters' sets, as src/sets.rt contains it
abbrev letters : List (List ℕ)
letters =
    quarters 12297829382473034410 ∷
    quarters 14757395258967641292 ∷
    quarters 17361641481138401520 ∷
    quarters 18374966859414961920 ∷
    quarters 18446462603027742720 ∷
    quarters 18446744069414584320 ∷
    (0 ∷ all ∷ 0 ∷ all ∷ []) ∷
    (0 ∷ 0 ∷ all ∷ all ∷ []) ∷
    []

-- row k as a set
abbrev letter_set : ℕ → ClassSet
letter_set k = record { 0 = get_or letters k [] }

-- row k contains the class byte c where that contains the bit k
abbrev right : ℕ → ℕ → Bool
right k c = eqb (get_or (numbers (letter_set k)) (c / 64) 0 / 2 ^ (c % 64) % 2) (c / 2 ^ k % 2)

abbrev all_right : ℕ → Bool
all_right k = passes (right k) 256

-- each row contains just the class bytes with its bit, by a test of every letter and class byte
pub letter-rows : (k j : ℕ) → k ≡ j → j < 8 → LetterSet j (letter_set k)
unfolding contains
letter-rows k j e h = record {
  entry = λ c l.
      ap (λ (x : ℕ). eqb x 1) (eqb-true _ (c / 2 ^ k % 2) (passed (right k) 256 (passed all_right 8 refl k (omega arith)) c l))
      ∙ ap (λ (x : ℕ). bit c x) e;
}
