-- The occurrences of a pattern are closed under the pointwise minimum and maximum, since each constraint is.
use Rattle.std.specs.Prelude.{ℕ, ◌+◌, ◌-◌, ◌≤◌, ◌<◌, ◌≡◌, List, false, length}
use Rattle.std.proofs.Math.Decide.{ℕ_discrete, dec_lt}
use Rattle.std.proofs.Common.{arith}
use Rattle.pattern.specs.declared.Pattern.{Pattern}
use Rattle.matching.specs.Occurrence.{View, PlaceFitsIn, OccursIn, at}
use Rattle.pattern.specs.Patterns.{slot_at}
use Rattle.matching.specs.Rows.{meet, join}
use Rattle.matching.proofs.Laws.Rows.{Sublattice, at_meet, at_join, length_meet, length-join}

-- ---- each kind of constraint

size_sublattice : (n : ℕ) → Sublattice (λ r. length r ≡ n)
size_sublattice n = record {
  meets = λ r s p q. omega (arith, length_meet r s);
  joins = λ r s p q. omega (arith, length-join r s);
}

either : (P : ℕ → Type 0) (x p q : ℕ) → (¬ (x ≡ p) → x ≡ q) → P p → P q → P x
either P x p q other h k = elim (ℕ_discrete x p) [ yes e ↦ rw e h | no n ↦ rw (other n) k ]

-- on the place at one slot
place_sublattice : (P : ℕ → Type 0) (j : ℕ) → Sublattice (λ r. P (at r j))
place_sublattice P j = record {
  meets = λ r s. either P (at (meet r s) j) (at r j) (at s j) (λ n. omega (arith, at_meet r s j));
  joins = λ r s. either P (at (join r s) j) (at r j) (at s j) (λ n. omega (arith, at_join r s j));
}

-- on the distance between the places at two slots
gap_sublattice : (i j low high : ℕ) → Sublattice (λ r. (at r i + low + 1 ≤ at r j) × (at r j ≤ at r i + high + 1))
gap_sublattice i j low high = record {
  meets = λ r s p q. omega (arith, at_meet r s i, at_meet r s j);
  joins = λ r s p q. omega (arith, at_join r s i, at_join r s j);
}

span_sublattice : (i j least most : ℕ) → Sublattice (λ r. (at r i + least ≤ at r j + 1) × (at r j + 1 ≤ at r i + most))
span_sublattice i j least most = record {
  meets = λ r s p q. omega (arith, at_meet r s i, at_meet r s j);
  joins = λ r s p q. omega (arith, at_join r s i, at_join r s j);
}

-- on the places strictly between those at two slots
between_sublattice : (P : ℕ → Type 0) (i j : ℕ) → Sublattice (λ r. (p : ℕ) → at r i < p → p < at r j → P p)
between_sublattice P i j = record {
  meets = λ r s c d p l h. elim (dec_lt (at r i) p) [
    | yes k ↦ c p k (omega (arith, at_meet r s j))
    | no k ↦ d p (omega (arith, at_meet r s i)) (omega (arith, at_meet r s j))
  ];
  joins = λ r s c d p l h. elim (dec_lt p (at r j)) [
    | yes k ↦ c p (omega (arith, at_join r s i)) k
    | no k ↦ d p (omega (arith, at_join r s i)) (omega (arith, at_join r s j))
  ];
}

-- ---- an occurrence: all of them

module _ (f : Pattern) (v : View) where
  -- `mix` stands for `meet` and for `join`
  occurs_mix : (mix : List ℕ → List ℕ → List ℕ) → ((P : List ℕ → Type 0) → Sublattice P → (r s : List ℕ) → P r → P s → P (mix r s))
      → (r s : List ℕ) → OccursIn f v r → OccursIn f v s → OccursIn f v (mix r s)
  occurs_mix mix closed r s o o' = record {
    size = closed _ (size_sublattice f.count) r s o.size o'.size;
    word = λ j h. closed _ (place_sublattice (PlaceFitsIn v j) j) r s (o.word j h) (o'.word j h);
    gap = λ j h. closed _ (gap_sublattice j (j + 1) (slot_at f (j + 1)).low (slot_at f (j + 1)).high) r s (o.gap j h) (o'.gap j h);
    span = closed _ (span_sublattice 0 (f.count - 1) f.least f.most) r s o.span o'.span;
    sentence = closed _ (between_sublattice (λ p. v.ends p ≡ false) 0 (f.count - 1)) r s o.sentence o'.sentence;
  }

  pub occurs_sublattice : Sublattice (OccursIn f v)
  occurs_sublattice = record { meets = occurs_mix meet (λ P c. c.meets); joins = occurs_mix join (λ P c. c.joins) }
