-- Laws of the rows' order, of the places of a row, and of the lattice of the pointwise minimum and maximum.
use Rattle.std.specs.Prelude.{ℕ, zero, suc, ◌+◌, ◌-◌, ◌≤◌, ◌<◌, min, max, ◌≡◌, refl, List, [], ◌∷◌, length}
use Rattle.std.proofs.Common.{arith}
use Rattle.std.proofs.lemmas.List.{get_or-replicate}
use Rattle.pattern.specs.declared.Pattern.{Pattern}
use Rattle.matching.specs.Occurrence.{View, OccursIn, at, Apart}
use Rattle.matching.specs.Rows.{level, Before, meet, join}
use Rattle.matching.proofs.Laws.Sorting.{Closed, Exchange}

pub at_level : (m p j : ℕ) → j < m → at (level m p) j ≡ p
at_level m p j h = get_or-replicate m j p 0 h

-- ---- a row whose places rise from slot to slot

module _ {m : ℕ} (r : List ℕ) (rise : (j : ℕ) → j + 1 < m → at r j ≤ at r (j + 1)) where
  rises_by : (d i : ℕ) → i + d < m → at r i ≤ at r (i + d)
  rises_by zero i h = let e : i + 0 ≡ i = omega arith in rw e (omega arith)
  rises_by (suc d) i h = let e : i + suc d ≡ i + d + 1 = omega arith in rw e (omega (arith, rises_by d i (omega arith), rise (i + d) (omega arith)))

  pub row-rises : {i j : ℕ} → i ≤ j → j < m → at r i ≤ at r j
  row-rises {i} {j} l h = let e : i + (j - i) ≡ j = omega arith in rw e at (rises_by (j - i) i (omega arith))

-- the places of an occurrence lie between its first and its last
pub occurs_between : {f : Pattern} {v : View} {r : List ℕ} → OccursIn f v r → (j : ℕ) → j < f.count → (at r 0 ≤ at r j) × (at r j ≤ at r (f.count - 1))
occurs_between {f} {r = r} O j h =
    let rise : (k : ℕ) → k + 1 < f.count → at r k ≤ at r (k + 1) = λ k l. omega (arith, O.gap k l) in
    (row-rises r rise (omega arith) h, row-rises r rise (omega arith) (omega arith))

-- ---- the earlier place, and the later place, at each slot

pub at_meet : (r s : List ℕ) (j : ℕ) → at (meet r s) j ≡ min (at r j) (at s j)
unfolding meet
at_meet [] s j = omega arith
at_meet (p ∷ r) [] j = omega arith
at_meet (p ∷ r) (q ∷ s) zero = refl
at_meet (p ∷ r) (q ∷ s) (suc j) = at_meet r s j

pub at_join : (r s : List ℕ) (j : ℕ) → at (join r s) j ≡ max (at r j) (at s j)
unfolding join
at_join [] s j = omega arith
at_join (p ∷ r) [] j = omega arith
at_join (p ∷ r) (q ∷ s) zero = refl
at_join (p ∷ r) (q ∷ s) (suc j) = at_join r s j

pub length_meet : (r s : List ℕ) → length (meet r s) ≡ min (length r) (length s)
unfolding meet
length_meet [] s = omega arith
length_meet (p ∷ r) [] = omega arith
length_meet (p ∷ r) (q ∷ s) = omega (arith, length_meet r s)

pub length-join : (r s : List ℕ) → length (join r s) ≡ max (length r) (length s)
unfolding join
length-join [] s = omega arith
length-join (p ∷ r) [] = omega arith
length-join (p ∷ r) (q ∷ s) = omega (arith, length-join r s)

-- a set of rows that is closed under both
abbrev pub Sublattice : (List ℕ → Type 0) → Type 0
Sublattice P = Closed meet join P

-- ---- two rows that are apart exchange their places at some slots, and then stand in order

pub rows_exchange : (m : ℕ) → Exchange meet join (Apart m) (Before m)
unfolding Before Apart
rows_exchange m = record {
  ordered = λ r s a j h. omega (arith, a j h, at_meet r s j, at_join r s j);
  meet_before = λ r s t p j h. omega (arith, p j h, at_meet r s j);
  join_apart = λ r s t a p j h e. omega (arith, a j h, p j h, at_join r s j);
  past_closed = λ a. record {
    meets = λ r s p q j h. omega (arith, p j h, q j h, at_meet r s j);
    joins = λ r s p q j h. omega (arith, p j h, q j h, at_join r s j);
  };
  apart-closed = λ a. record {
    meets = λ r s p q j h e. omega (arith, p j h, q j h, at_meet r s j);
    joins = λ r s p q j h e. omega (arith, p j h, q j h, at_join r s j);
  };
}
