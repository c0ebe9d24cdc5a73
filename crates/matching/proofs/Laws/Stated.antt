-- Patterns that agree have the same occurrences in every text, and so the same searches and lists. Where they state the same, the calls
-- answer the same for them: entries past the stated number of slots or words are not looked at.
use Rattle.std.specs.Prelude.{ℕ, ◌+◌, ◌-◌, ◌<◌, ◌≡◌, refl, List, length}
use Rattle.std.proofs.Common.{arith}
use Rattle.std.proofs.Math.Path.{fun_ext}
use Rattle.pattern.specs.declared.Pattern.{Pattern}
use Rattle.pattern.specs.Tests.{Verdict, input_verdict}
use Rattle.pattern.specs.Stated.{SameStated}
use Rattle.pattern.specs.Agree.{Agree}
use Rattle.pattern.specs.Laws.Stated.{input_same}
use Rattle.pattern.specs.Laws.Agree.{agree_takes, same_agree}
use Rattle.matching.specs.Occurrence.{View, plain, at, word_at}
use Rattle.matching.specs.Occurrences.{place_fits_in, word_in, gap_fits, gap, span, sentence_in, occurs_in, occurs, occurrences_in, occurrences}
use Rattle.matching.specs.Lists.{leftmost_in, rightmost_in, leftmost, rightmost}
use Rattle.matching.specs.Answers.{row_verdict, first_after, last_before, listed, filled, front_listed, front_written, back_listed, back_written, counted}
use Rattle.matching.proofs.Laws.Tests.{each_same}

-- two views are the same to a pattern of m slots
pub record SameView (m : ℕ) (v w : View) : Type 0 where
  pub places : v.places ≡ w.places
  pub fits : (j : ℕ) → j < m → (p : ℕ) → v.fits j p ≡ w.fits j p
  pub ends : (p : ℕ) → v.ends p ≡ w.ends p

module _ {f g : Pattern} (agree : Agree f g) where
  pub plain_same : (t : List ℕ) → SameView f.count (plain f t) (plain g t)
  plain_same t = record { places = refl; fits = λ j h p. agree_takes (agree.slot j h) (word_at t p); ends = λ p. refl }

  gap_same : (r : List ℕ) → gap f r ≡ gap g r
  unfolding gap gap_fits
  gap_same r =
      let gaps = each_same (f.count - 1) (gap_fits f r) (gap_fits g r) (λ j h. rw ((agree.slot (j + 1) (omega arith)).low, (agree.slot (j + 1) (omega arith)).high)) in
      rw (gaps, agree.count)

  span_same : (r : List ℕ) → span f r ≡ span g r
  unfolding span
  span_same r = rw (agree.count, agree.least, agree.most)

  module _ {v w : View} (alike : SameView f.count v w) where
    word_same : (r : List ℕ) → word_in f v r ≡ word_in g w r
    unfolding word_in place_fits_in
    word_same r =
        let fits = each_same f.count (λ j. place_fits_in v j (at r j)) (λ j. place_fits_in w j (at r j)) (λ j h. rw (alike.places, alike.fits j h (at r j))) in
        rw (fits, agree.count)

    sentence_same : (r : List ℕ) → sentence_in f v r ≡ sentence_in g w r
    unfolding sentence_in
    sentence_same r = let ends : v.ends ≡ w.ends = fun_ext alike.ends in rw (ends, agree.count)

    pub occurs_same : (r : List ℕ) → occurs_in f v r ≡ occurs_in g w r
    unfolding occurs_in
    occurs_same r = rw (word_same r, gap_same r, span_same r, sentence_same r, agree.count)

    pub occurrences_same : occurrences_in f v ≡ occurrences_in g w
    unfolding occurrences_in
    occurrences_same =
        let tests : occurs_in f v ≡ occurs_in g w = fun_ext occurs_same in
        rw (tests, agree.count, alike.places)

    pub leftmost_same : leftmost_in f v ≡ leftmost_in g w
    unfolding leftmost_in
    leftmost_same = rw (occurrences_same, agree.count, alike.places)

    pub rightmost_same : rightmost_in f v ≡ rightmost_in g w
    unfolding rightmost_in
    rightmost_same = rw (occurrences_same, agree.count, alike.places)

  -- ---- in a text

  module _ (t : List ℕ) where
    pub agree_occurs : (r : List ℕ) → occurs f t r ≡ occurs g t r
    agree_occurs r = occurs_same (plain_same t) r

    pub agree_occurrences : occurrences f t ≡ occurrences g t
    agree_occurrences = occurrences_same (plain_same t)

    pub agree_leftmost : leftmost f t ≡ leftmost g t
    agree_leftmost = leftmost_same (plain_same t)

    pub agree_rightmost : rightmost f t ≡ rightmost g t
    agree_rightmost = rightmost_same (plain_same t)

-- ---- what the calls answer for a text

module _ {f g : Pattern} (same : SameStated f g) (t : List ℕ) where
  pub row_same : (row : List ℕ) → row_verdict f t row ≡ row_verdict g t row
  unfolding row_verdict
  row_same row = rw (input_same same (length t), same.count)

  pub first_same : (marks : List ℕ) → first_after f t marks ≡ first_after g t marks
  first_same marks = rw (row_same marks, agree_occurrences (same_agree same) t, same.count)

  pub last_same : (marks : List ℕ) → last_before f t marks ≡ last_before g t marks
  last_same marks = rw (row_same marks, agree_occurrences (same_agree same) t, same.count)

  -- whatever is made of the verdict, the number of slots and the three lists of rows
  pub answers_same : {A : Type 0} (answer : Verdict → ℕ → List (List ℕ) → List (List ℕ) → List (List ℕ) → A)
      → answer (input_verdict f (length t)) f.count (occurrences f t) (leftmost f t) (rightmost f t)
      ≡ answer (input_verdict g (length t)) g.count (occurrences g t) (leftmost g t) (rightmost g t)
  answers_same answer =
      rw (agree_leftmost (same_agree same) t, agree_rightmost (same_agree same) t, agree_occurrences (same_agree same) t, input_same same (length t), same.count)

  -- the answer of the front list's call, and what the caller's list l then holds; the same of the back list; the count
  pub front_same : (l : List ℕ) → (front_listed f t (length l) ≡ front_listed g t (length l)) × (front_written f t l ≡ front_written g t l)
  front_same l = (answers_same (λ v m H F B. listed v m F (length l)), answers_same (λ v m H F B. filled v m F l))

  pub back_same : (l : List ℕ) → (back_listed f t (length l) ≡ back_listed g t (length l)) × (back_written f t l ≡ back_written g t l)
  back_same l = (answers_same (λ v m H F B. listed v m B (length l)), answers_same (λ v m H F B. filled v m B l))

  pub count_same : counted (input_verdict f (length t)) (leftmost f t) ≡ counted (input_verdict g (length t)) (leftmost g t)
  count_same = answers_same (λ v m H F B. counted v F)
