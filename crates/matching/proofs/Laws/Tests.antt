-- The tests hold exactly where what they test holds.
use Rattle.std.specs.Prelude.{ℕ, zero, suc, ◌+◌, ◌-◌, ◌≤◌, ◌<◌, ◌≡◌, refl, ◌↔◌, Bool, true, not, List, leb, ltb, eqb}
use Rattle.std.proofs.Common.{arith, below_more, leb-true, le-leb, ltb-true, lt-ltb, eqb-true, eq-eqb}
use Rattle.std.proofs.Math.Bool.{and-eq-true_iff}
use Rattle.std.proofs.lemmas.Bool.{not-true}
use Rattle.pattern.specs.declared.Pattern.{Pattern}
use Rattle.matching.specs.Occurrence.{View, Unbroken, at, PlaceFitsIn, WordIn, Gap, Span, SentenceIn, OccursIn}
use Rattle.matching.specs.Occurrences.{within, each, unbroken, place_fits_in, word_in, gap_fits, gap, span, sentence_in, occurs_in}
use Rattle.matching.specs.Rows.{Before, before}

pub within_iff : (low x high : ℕ) → (within low x high ≡ true) ↔ ((low ≤ x) × (x ≤ high))
unfolding within
within_iff low x high = (
  λ e. let b = (and-eq-true_iff (leb low x) (leb x high)).0 e in (leb-true low x b.0, leb-true x high b.1),
  λ h. (and-eq-true_iff (leb low x) (leb x high)).1 (le-leb low x h.0, le-leb x high h.1),
)

pub eqb_iff : (x y : ℕ) → (eqb x y ≡ true) ↔ (x ≡ y)
eqb_iff x y = (eqb-true x y, eq-eqb x y)

pub each_iff : (n : ℕ) (p : ℕ → Bool) → (each n p ≡ true) ↔ ((j : ℕ) → j < n → p j ≡ true)
unfolding each
each_iff zero p = (λ e j h. absurd (omega arith), λ h. refl)
each_iff (suc n) p = (
  λ e. let b = (and-eq-true_iff (p n) (each n p)).0 e in λ j h. below_more (λ i. p i ≡ true) n ((each_iff n p).0 b.1) b.0 j (omega arith),
  λ h. (and-eq-true_iff (p n) (each n p)).1 (h n (omega arith), (each_iff n p).1 (λ j l. h j (omega arith))),
)

pub each_same : (n : ℕ) (p q : ℕ → Bool) → ((j : ℕ) → j < n → p j ≡ q j) → each n p ≡ each n q
unfolding each
each_same zero p q h = refl
each_same (suc n) p q h = rw (h n (omega arith), each_same n p q (λ j l. h j (omega arith)))

unbroken_iff : (ends : ℕ → Bool) (p q : ℕ) → (unbroken ends p q ≡ true) ↔ Unbroken ends p q
unfolding unbroken
unbroken_iff ends p q = (
  λ e x l h. let d : p + (x - p - 1) + 1 ≡ x = omega arith in
      rw d at (not-true (ends (p + (x - p - 1) + 1)) ((each_iff (q - p - 1) (λ i. not (ends (p + i + 1)))).0 e (x - p - 1) (omega arith))),
  λ u. (each_iff (q - p - 1) (λ i. not (ends (p + i + 1)))).1 (λ i h. rw (u (p + i + 1) (omega arith) (omega arith))),
)

-- ---- an occurrence, condition by condition

place_iff : (v : View) (j place : ℕ) → (place_fits_in v j place ≡ true) ↔ PlaceFitsIn v j place
unfolding place_fits_in
place_iff v j place = (
  λ e. let b = simp (and-eq-true_iff, within_iff) at e in record { inside = b.0; fit = b.1 },
  λ w. simp (and-eq-true_iff, within_iff) (w.inside, w.fit),
)

module _ (f : Pattern) where
  pub word_iff : (v : View) (r : List ℕ) → (word_in f v r ≡ true) ↔ WordIn f v r
  unfolding word_in
  word_iff v r = (λ e. simp (each_iff, place_iff) at e, λ w. simp (each_iff, place_iff) w)

  pub gap_iff : (r : List ℕ) → (gap f r ≡ true) ↔ Gap f r
  unfolding gap gap_fits
  gap_iff r = (λ e j h. (simp (each_iff, within_iff) at e) j (omega arith), λ g. simp (each_iff, within_iff) (λ j h. g j (omega arith)))

  pub span_iff : (r : List ℕ) → (span f r ≡ true) ↔ Span f r
  unfolding span
  span_iff r = within_iff (at r 0 + f.least) (at r (f.count - 1) + 1) (at r 0 + f.most)

  pub sentence_iff : (v : View) (r : List ℕ) → (sentence_in f v r ≡ true) ↔ SentenceIn f v r
  unfolding sentence_in
  sentence_iff v r = unbroken_iff v.ends (at r 0) (at r (f.count - 1))

ruleset conditions = (and-eq-true_iff, eqb_iff, word_iff, gap_iff, span_iff, sentence_iff)

pub occurs_iff : (f : Pattern) (v : View) (r : List ℕ) → (occurs_in f v r ≡ true) ↔ OccursIn f v r
unfolding occurs_in
occurs_iff f v r = (
  λ e. let o = simp conditions at e in record { size = o.0.0.0.0; word = o.0.0.0.1; gap = o.0.0.1; span = o.0.1; sentence = o.1 },
  λ o. simp conditions ((((o.size, o.word), o.gap), o.span), o.sentence),
)

ltb_iff : (a b : ℕ) → (ltb a b ≡ true) ↔ (a < b)
ltb_iff a b = (ltb-true a b, lt-ltb a b)

pub before_iff : (m : ℕ) (r s : List ℕ) → (before m r s ≡ true) ↔ Before m r s
unfolding before Before
before_iff m r s = (λ e. simp (each_iff, ltb_iff) at e, λ h. simp (each_iff, ltb_iff) h)
