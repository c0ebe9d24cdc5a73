-- What each test of the reader tells of a text file. Assumes nothing.
use Rattle.std.specs.Prelude.{Err, Ok, Result}
use Prim.Native.Nat.{ℕ, ◌≤◌, ◌<◌}
use native.Mathlib.Omega.{arith}
use mathlib.Core.Bool.{true, false}
use mathlib.Core.List.{List, [], ◌∷◌, map}
use mathlib.Core.Path.{◌≡◌, refl, sym, ◌∙◌, ap}
use lib.ListN.{length, length-map}
use borrow.Author.Tests.{le-ltb, lt-ltb}
use Rattle.pattern.specs.declared.refusal.Refusal.{Refusal}
use Rattle.pattern.specs.declared.refusal.Refusal.TheVariants.{FileLength, Names, TextLength, WordListLength}
use Rattle.format.specs.Bytes.{decimal, ended, is_number, lines, same}
use Rattle.format.specs.Steps.ValueLines.{word_lines}
use Rattle.format.specs.Names.{word_name}
use Rattle.format.specs.Texts.{after_name, of_lines, refused, text_contents, text_read, text_written, words}
use Rattle.format.specs.Layouts.{Layout}
use Rattle.format.specs.Steps.ClosedLines.{ClosedLine, OpenLine, laid}
use Rattle.basics.specs.Written.{over}
use Rattle.format.proofs.LineSteps.{laid_ok, laid_right, laid_why, scan-count}

-- the contract of the reader, of its answer and of the caller's list
pub record Done (s out : List ℕ) (a : (Result ℕ Refusal)) (last : List ℕ) : Type 0 where
  pub answer : a ≡ text_read s (length out)
  pub content : last ≡ text_written s out

pub text_none : (s : List ℕ) → length s ≡ 0 → text_contents s ≡ words []
unfolding text_contents
text_none [] h = refl
text_none (b ∷ s) h = absurd (omega arith)

text-lines : (s : List ℕ) → 0 < length s → text_contents s ≡ of_lines (lines s) (ended s 10)
unfolding text_contents
text-lines [] h = absurd (omega arith)
text-lines (b ∷ s) h = refl

-- with l the first line
module _ {s : List ℕ} (some : 0 < length s) where
  pub text_open : OpenLine s → text_contents s ≡ refused (Names 1)
  text_open o = text-lines s some ∙ rw o.none

  module _ {l t : List ℕ} (h : ClosedLine s l t) where
    text-line : text_contents s ≡ of_lines (l ∷ lines t) (ended t 10)
    text-line = text-lines s some ∙ rw (h.first, h.last)

    pub text_name : same l word_name ≡ false → text_contents s ≡ refused (Names 1)
    text_name k = text-line ∙ rw k

    pub text_rest : same l word_name ≡ true → text_contents s ≡ after_name (word_lines t) (lines t)
    unfolding word_lines
    text_rest k = text-line ∙ rw k

right_length : (t : List ℕ) (k : ℕ) → Ok k ≡ word_lines t → length (map decimal (lines t)) ≡ k
unfolding word_lines
right_length t k w = length-map (lines t) decimal ∙ omega (arith, scan-count (lines t) is_number (ended t 10) 0 k (sym w))

-- what is answered
module _ (s out : List ℕ) where
  pub is_long : 60000 < length s → Done s out (Err FileLength) out
  unfolding text_read text_written
  is_long h = record { answer = simp (lt-ltb _ _ h); content = simp (lt-ltb _ _ h) }

  module _ (h : length s ≤ 60000) where
    pub is_refused : (why : Refusal) → text_contents s ≡ refused why → Done s out (Err why) out
    unfolding text_read text_written
    is_refused why t = record { answer = simp (le-ltb _ _ h, t); content = simp (le-ltb _ _ h, t) }

    module _ (ws : List ℕ) (k : ℕ) (t : text_contents s ≡ words ws) (long : length ws ≡ k) where
      is_over : 20000 < k → Done s out (Err TextLength) out
      unfolding text_read text_written
      is_over g =
          let g' : 20000 < length ws = omega arith in
          record { answer = simp (le-ltb _ _ h, t, lt-ltb _ _ g'); content = simp (le-ltb _ _ h, t, lt-ltb _ _ g') }

      is_short : k ≤ 20000 → length out < k → Done s out (Err WordListLength) out
      unfolding text_read text_written
      is_short g r =
          let g' : length ws ≤ 20000 = omega arith in
          let r' : length out < length ws = omega arith in
          record { answer = simp (le-ltb _ _ h, t, le-ltb _ _ g', lt-ltb _ _ r'); content = simp (le-ltb _ _ h, t, le-ltb _ _ g', lt-ltb _ _ r') }

      pub is_read : k ≤ 20000 → k ≤ length out → Done s out (Ok k) (over out ws)
      unfolding text_read text_written
      is_read g r =
          let g' : length ws ≤ 20000 = omega arith in
          let r' : length ws ≤ length out = omega arith in
          record { answer = simp (le-ltb _ _ h, t, le-ltb _ _ g', le-ltb _ _ r') (ap Ok (sym long)); content = simp (le-ltb _ _ h, t, le-ltb _ _ g', le-ltb _ _ r') }

-- what is known past the line l of the name, with t what follows it
pub record Named (s : List ℕ) (t : List ℕ) : Type 0 where
  pub small : length s ≤ 60000
  pub contents : text_contents s ≡ after_name (word_lines t) (lines t)

pub is_wrong_lem : {s t : List ℕ} → Named s t → (out : List ℕ) (why : Refusal) → laid 2 (word_lines t) ≡ Err why → Done s out (Err why) out
is_wrong_lem {s} {t} n out why w = is_refused s out n.small why (n.contents ∙ go (word_lines t) w)
  where
    go : (y : Layout) → laid 2 y ≡ Err why → after_name y (lines t) ≡ refused why
    go (Ok k) q = absurd (laid_ok q)
    go (Err k) q = ap refused (laid_why q)

module _ {s t : List ℕ} (n : Named s t) (k : ℕ) (w : laid 2 (word_lines t) ≡ Ok k) where
  pub lines_right : word_lines t ≡ Ok k
  lines_right = laid_right 2 _ w

  holds : text_contents s ≡ words (map decimal (lines t))
  holds = n.contents ∙ rw lines_right

  pub over_many : (out : List ℕ) → 20000 < k → Done s out (Err TextLength) out
  over_many out h = is_over s out n.small _ k holds (right_length t k (sym lines_right)) h

  pub too_short : (out : List ℕ) → k ≤ 20000 → length out < k → Done s out (Err WordListLength) out
  too_short out h r = is_short s out n.small _ k holds (right_length t k (sym lines_right)) h r

  pub all_read : (out : List ℕ) → k ≤ 20000 → k ≤ length out → Done s out (Ok k) (over out (map decimal (lines t)))
  all_read out h r = is_read s out n.small _ k holds (right_length t k (sym lines_right)) h r
