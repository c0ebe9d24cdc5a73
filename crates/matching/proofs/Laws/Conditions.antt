-- An occurrence as it was said before its conditions had names, by its record and by its test: that all places are in the text, then that
-- their words fit, each for itself. Every row keeps its yes or no.
use Rattle.std.specs.Prelude.{ℕ, zero, suc, ◌+◌, ◌-◌, ◌≤◌, ◌<◌, ◌≡◌, refl, Bool, true, false, ◌&&◌, List, ◌↔◌, length, eqb}
use Rattle.std.proofs.Common.{sym}
use Rattle.std.proofs.Math.Bool.{and-false, and_assoc}
use Rattle.pattern.specs.declared.Pattern.{Pattern}
use Rattle.pattern.specs.Patterns.{slot_at}
use Rattle.matching.specs.Occurrence.{View, at, Unbroken, OccursIn}
use Rattle.matching.specs.Occurrences.{within, each, unbroken, place_fits_in, word_in, gap_fits, gap, span, sentence_in, occurs_in}

-- the record
pub occurs-listed : (f : Pattern) (v : View) (r : List ℕ) → OccursIn f v r ↔ (
    (length r ≡ f.count)
    × ((j : ℕ) → j < f.count → (1 ≤ at r j) × (at r j ≤ v.places))
    × ((j : ℕ) → j < f.count → v.fits j (at r j) ≡ true)
    × ((j : ℕ) → j + 1 < f.count → (at r j + (slot_at f (j + 1)).low + 1 ≤ at r (j + 1)) × (at r (j + 1) ≤ at r j + (slot_at f (j + 1)).high + 1))
    × ((at r 0 + f.least ≤ at r (f.count - 1) + 1) × (at r (f.count - 1) + 1 ≤ at r 0 + f.most))
    × Unbroken v.ends (at r 0) (at r (f.count - 1)))
occurs-listed f v r = (
  λ o. (o.size, λ j h. (o.word j h).inside, λ j h. (o.word j h).fit, o.gap, o.span, o.sentence),
  λ (size, inside, fit, gaps, spans, one-sentence). record { size = size; word = λ j h. record { inside = inside j h; fit = fit j h }; gap = gaps; span = spans; sentence = one-sentence },
)

-- ---- the test

crossed : (a b c d : Bool) → (a && b && (c && d)) ≡ (a && c && (b && d))
crossed false b c d = refl
crossed true false c d = sym (and-false c)
crossed true true c d = refl

each_both : (n : ℕ) (p q : ℕ → Bool) → each n (λ j. p j && q j) ≡ (each n p && each n q)
unfolding each
each_both zero p q = refl
each_both (suc n) p q = rw (each_both n p q) (crossed (p n) (q n) (each n p) (each n q))

pub occurs-written_out : (f : Pattern) (v : View) (r : List ℕ) → occurs_in f v r ≡ (
    eqb (length r) f.count
    && each f.count (λ j. within 1 (at r j) v.places)
    && each f.count (λ j. v.fits j (at r j))
    && each (f.count - 1) (λ j. within (at r j + (slot_at f (j + 1)).low + 1) (at r (j + 1)) (at r j + (slot_at f (j + 1)).high + 1))
    && within (at r 0 + f.least) (at r (f.count - 1) + 1) (at r 0 + f.most)
    && unbroken v.ends (at r 0) (at r (f.count - 1)))
unfolding occurs_in word_in place_fits_in gap gap_fits span sentence_in
occurs-written_out f v r =
    let inside : ℕ → Bool = λ j. within 1 (at r j) v.places in
    let fit : ℕ → Bool = λ j. v.fits j (at r j) in
    rw (each_both f.count inside fit, ← and_assoc (eqb (length r) f.count) (each f.count inside) (each f.count fit))
