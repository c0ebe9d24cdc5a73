-- What a pattern sees of a recoded text: the sentences of the text itself, and the code where a class byte meets the expression.
use Rattle.std.specs.Prelude.{ℕ, ◌-◌, ◌≤◌, ◌≡◌, refl, Bool, ◌&&◌, List, [], ◌∷◌, length, get_or, eqb, ltb}
use Rattle.std.proofs.Common.{arith, sym, ◌∙◌, ap, eq-eqb, ne_eqb, ltb-true, ltb-false}
use Rattle.std.proofs.Math.Bool.{true, false, not, or-false}
use Rattle.basics.specs.Choice.{pick}
use Rattle.basics.specs.Laws.Arrays.{at_past}
use Rattle.pattern.specs.declared.slot.Slot.{Slot}
use Rattle.pattern.specs.Patterns.{member, stated, takes}
use Rattle.matching.specs.Occurrence.{word_at, takes_at, ends_at}
use Rattle.classes.specs.Trees.{Tree, meets}
use Rattle.classes.specs.Recoding.{recoded_word, recoded_words}
use Rattle.classes.specs.Laws.Words.{recoded-length, recoded_at}

-- ---- one word

-- it is 0 exactly where it was
zero_kept : (met : Bool) (code w : ℕ) → (code ≡ 0 → ⊥) → eqb (recoded_word met code w) 0 ≡ eqb w 0
zero_kept met code w h = go (eqb w 0) refl met
  where
    go : (b : Bool) → eqb w 0 ≡ b → (m : Bool) → eqb (recoded_word m code w) 0 ≡ b
    go true e m = simp e
    go false e true = simp e (ne_eqb code 0 h)
    go false e false = simp e

-- whatever test passes of it: that of 0, of the code, or of the word itself
tested : (T : ℕ → Bool) (met : Bool) (code w : ℕ) → T (recoded_word met code w) ≡ pick (eqb w 0) (T 0) (pick met (T code) (T w))
tested T met code w = go (eqb w 0) met
  where
    go : (b m : Bool) → T (pick b 0 (pick m code w)) ≡ pick b (T 0) (pick m (T code) (T w))
    go true m = refl
    go false true = refl
    go false false = refl

-- ---- a place of the text

module _ (t : Tree) (code : ℕ) (text classes : List ℕ) (equal : length classes ≡ length text) (coded : code ≡ 0 → ⊥) where
  -- sentences end where they did
  pub same_ends : (p : ℕ) → ends_at (recoded_words t code text classes) p ≡ ends_at text p
  same_ends p = go (ltb (p - 1) (length text)) refl
    where
      go : (b : Bool) → ltb (p - 1) (length text) ≡ b → ends_at (recoded_words t code text classes) p ≡ ends_at text p
      go true e = ap (λ (w : ℕ). eqb w 0) (recoded_at t code text classes (p - 1) equal (ltb-true (p - 1) (length text) e)) ∙ zero_kept (meets t (get_or classes (p - 1) 0)) code (word_at text p) coded
      go false e =
          let h = ltb-false (p - 1) (length text) e in
          let k : length (recoded_words t code text classes) ≤ p - 1 = omega (arith, recoded-length t code text classes equal) in
          ap (λ (w : ℕ). eqb w 0) (at_past (recoded_words t code text classes) (p - 1) k ∙ sym (at_past text (p - 1) h))

  module _ (s : Slot) (p : ℕ) (low : 1 ≤ p) (high : p ≤ length text) where
    -- any slot: a 0 as it did, a word whose class byte meets the expression as it takes the code, any other word as it did
    pub slot_sees : takes_at s (recoded_words t code text classes) p ≡ pick (ends_at text p) (takes s 0) (pick (meets t (get_or classes (p - 1) 0)) (takes s code) (takes_at s text p))
    slot_sees =
        ap (λ (w : ℕ). takes s w) (recoded_at t code text classes (p - 1) equal (omega arith))
        ∙ tested (λ w. takes s w) (meets t (get_or classes (p - 1) 0)) code (word_at text p)

    -- a plain slot that lists just the code takes the words other than 0 whose class byte meets the expression, where the word was not the code
    pub code_taken : s.excluding ≡ false → stated s ≡ code ∷ [] → (word_at text p ≡ code → ⊥) → takes_at s (recoded_words t code text classes) p ≡ not (ends_at text p) && meets t (get_or classes (p - 1) 0)
    unfolding takes member
    code_taken plain one other = slot_sees ∙ go (ends_at text p) (meets t (get_or classes (p - 1) 0))
      where
        go : (b m : Bool) → pick b (takes s 0) (pick m (takes s code) (takes_at s text p)) ≡ not b && m
        go true m = simp (plain, one, or-false) (ne_eqb code 0 coded)
        go false true = simp (plain, one, or-false) (eq-eqb code code refl)
        go false false = simp (plain, one, or-false) (ne_eqb code (word_at text p) (λ q. other (sym q)))
