-- A part of a list that was lent for a row and has come back, said of the whole list.
use Rattle.std.specs.Prelude.{ℕ, ◌+◌, ◌-◌, ◌≤◌, List, [], ◌++◌, ◌≡◌, length, take, drop}
use Rattle.std.proofs.Common.{arith, append_assoc, append-nil, sym, ap, ◌∙◌, length-drop, drop_of_length-le, take_all, drop-drop, le-ltb}
use Rattle.std.proofs.Math.Seq.{paste}
use borrow.Rule.Slice.PartMut.{put_mid}
use Rattle.basics.specs.Written.{row_over}

module _ (xs : List ℕ) (at : ℕ) (inside : at ≤ length xs) where
  -- the part from `at` to the end
  pub tail_is : take (length xs - at) (drop at xs) ≡ drop at xs
  tail_is = take_all (length xs - at) (drop at xs) (omega (arith, length-drop at xs))

  -- how long it is
  pub tail_length : length (take (length xs - at) (drop at xs)) ≡ length xs - at
  tail_length = ap length tail_is ∙ length-drop at xs

  -- nothing stands after it
  after_none : drop (length xs - at) (drop at xs) ≡ []
  after_none = drop_of_length-le (drop at xs) {i = length xs - at} (omega (arith, length-drop at xs))

  -- the whole, once the part from `at` has come back
  pub mid_is : (ys : List ℕ) → put_mid at (length xs - at) xs ys ≡ take at xs ++ ys
  mid_is ys = ap (λ (r : List ℕ). take at xs ++ (ys ++ r)) after_none ∙ ap (λ (r : List ℕ). take at xs ++ r) (append-nil ys)

  -- a row that was put at the start of the part stands there in the whole
  pub row-pasted : (row ys : List ℕ) (n : ℕ) → n ≤ length row → at + n ≤ length xs → ys ≡ row_over n row (take (length xs - at) (drop at xs))
      → put_mid at (length xs - at) xs ys ≡ paste xs at row n
  row-pasted row ys n few room e =
      let w = take (length xs - at) (drop at xs) in
      let lw : length w ≡ length xs - at = tail_length in
      let f : ys ≡ take n row ++ drop n w = simp (le-ltb (length row) n few, le-ltb (length w) n (omega arith)) at e in
      mid_is ys
      ∙ ap (λ (r : List ℕ). take at xs ++ r) (f ∙ ap (λ (r : List ℕ). take n row ++ r) (ap (drop n) tail_is ∙ drop-drop n at xs))
      ∙ sym (append_assoc (take at xs) (take n row) (drop (at + n) xs))
