-- Each condition of a row as its step finds it: it holds where it holds at every place, and fails where it fails at one. Assumes nothing.
use Rattle.std.proofs.Common.{◌≡◌, ℕ, ◌+◌, ◌-◌, ◌<◌, ◌≤◌, Bool, true, false, Result, Ok, Err, refl, List, length, sym, ◌∙◌, true≢false, arith, below_more, eq-eqb, ne_eqb}
use Rattle.std.specs.Result.{result_unwrap_or}
use Rattle.basics.specs.Laws.Choice.{is_false}
use Rattle.pattern.specs.declared.Pattern.{Pattern}
use Rattle.pattern.specs.declared.refusal.Refusal.{Refusal}
use Rattle.excerpts.specs.Answers.{if_occurrence}
use Rattle.matching.specs.Occurrence.{plain, ends_at, at, word_at, Unbroken, SentenceIn}
use Rattle.matching.specs.Occurrences.{each, place_fits_in, word_in, word, gap_fits, gap, sentence}
use Rattle.matching.proofs.Laws.Tests.{each_iff, word_iff, sentence_iff}

each_fails : (n : ℕ) (p : ℕ → Bool) (j : ℕ) → j < n → p j ≡ false → each n p ≡ false
each_fails n p j h e = is_false (each n p) (λ a. true≢false (sym ((each_iff n p).0 a j h) ∙ e))

module _ (f : Pattern) (t r : List ℕ) where
  -- ---- word

  -- whether the place of slot j is in the text and fits it
  abbrev pub fitting : ℕ → Bool
  fitting j = place_fits_in (plain f t) j (at r j)

  pub word_true : ((j : ℕ) → j < f.count → fitting j ≡ true) → true ≡ word f t r
  unfolding word_in
  word_true h = sym ((each_iff f.count fitting).1 h)

  pub word_false : (j : ℕ) → j < f.count → fitting j ≡ false → false ≡ word f t r
  unfolding word_in
  word_false j h e = sym (each_fails f.count fitting j h e)

module _ (f : Pattern) (r : List ℕ) where
  -- ---- gap

  pub gap_true : ((j : ℕ) → j < f.count - 1 → gap_fits f r j ≡ true) → true ≡ gap f r
  unfolding gap
  gap_true h = sym ((each_iff (f.count - 1) (gap_fits f r)).1 h)

  pub gap_false : (j : ℕ) → j < f.count - 1 → gap_fits f r j ≡ false → false ≡ gap f r
  unfolding gap
  gap_false j h e = sym (each_fails (f.count - 1) (gap_fits f r) j h e)

module _ (f : Pattern) (t r : List ℕ) where
  -- ---- sentence

  -- where each place is in the text, so is the last
  pub last_in_text : 1 ≤ f.count → word f t r ≡ true → at r (f.count - 1) ≤ length t
  last_in_text some holds = ((word_iff f (plain f t) r).0 holds (f.count - 1) (omega arith)).inside.1

  pub sentence_true : SentenceIn f (plain f t) r → true ≡ sentence f t r
  sentence_true u = sym ((sentence_iff f (plain f t) r).1 u)

  pub sentence_false : (p : ℕ) → at r 0 < p → p < at r (f.count - 1) → word_at t p ≡ 0 → false ≡ sentence f t r
  sentence_false p a b e = sym (is_false (sentence f t r) (λ s. true≢false (sym (eq-eqb (word_at t p) 0 e) ∙ (sentence_iff f (plain f t) r).0 s p a b)))

-- one place more without a sentence end
pub unbroken_more : (t : List ℕ) {first place : ℕ} → Unbroken (ends_at t) first place → (word_at t place ≡ 0 → ⊥) → Unbroken (ends_at t) first (place + 1)
unbroken_more t {first} {place} u n x a b = below_more (λ y. first < y → ends_at t y ≡ false) place (λ y l m. u y m l) (λ _. ne_eqb (word_at t place) 0 n) x b a

-- ---- the answer as a Bool: a row that is refused is no occurrence

pub answered_yes : {x : Result Bool Refusal} {b : Bool} → b ≡ result_unwrap_or x false → b ≡ true → x ≡ Ok true
answered_yes {x = Ok true} e d = refl
answered_yes {x = Ok false} e d = absurd (true≢false (sym d ∙ e))
answered_yes {x = Err why} e d = absurd (true≢false (sym d ∙ e))

pub answered_no : {A : Type 0} (x : Result Bool Refusal) {b : Bool} (y z : A) → b ≡ result_unwrap_or x false → b ≡ false → if_occurrence x y z ≡ z
answered_no (Ok true) y z e d = absurd (true≢false (sym e ∙ d))
answered_no (Ok false) y z e d = refl
answered_no (Err why) y z e d = refl
