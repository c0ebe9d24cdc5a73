-- The report of the bytes that fit the program's list is that of the whole input: a longer one is refused for its length.
use Rattle.std.proofs.Common.{◌≡◌, ℕ, ◌+◌, ◌<◌, ◌≤◌, ◌⊎◌, inl, inr, List, ◌++◌, length, take, Option, None, Some, IfSome, sym, ap, ◌∙◌, subst, arith, append-nil, length-append, length-take-le}
use Rattle.std.proofs.Math.Nat.{eq-or-lt_of_le}
use Rattle.std.specs.Io.KnownBytes.{Consumes, IsAtEnd}
use Rattle.report.specs.Report.{reported}
use borrow.Author.Tests.{lt-ltb}

-- two inputs of more than 60,000 bytes
too_long : (xs ys : List ℕ) → 60000 < length xs → 60000 < length ys → reported xs ≡ reported ys
unfolding reported
too_long xs ys h k = rw (lt-ltb 60000 (length xs) h, lt-ltb 60000 (length ys) k)

-- what holds of the report of the first n bytes of an input holds of its report, where these are all, or as many as the list has room for
pub whole_report : (a b : Option (List ℕ)) (list : List ℕ) (n : ℕ) (P : List ℕ → Type 0) → 60000 < length list → n ≤ length list → Consumes a b (take n list)
    → (n < length list → IsAtEnd b) → P (reported (take n list)) → IfSome a (λ bytes. P (reported bytes))
whole_report None b list n P long within lost ends here = tt
whole_report (Some xs) None list n P long within lost ends here = absurd lost
whole_report (Some xs) (Some ys) list n P long within lost ends here = go (eq-or-lt_of_le within)
  where
    go : (n ≡ length list) ⊎ (n < length list) → P (reported xs)
    go (inr short) = subst (λ (bytes : List ℕ). P (reported bytes)) (sym (lost ∙ ap (λ (l : List ℕ). take n list ++ l) (ends short) ∙ append-nil (take n list))) here
    go (inl full) =
        let first : length (take n list) ≡ length list = length-take-le n list within ∙ full in
        let all : length xs ≡ length (take n list) + length ys = ap length lost ∙ length-append (take n list) ys in
        subst P (too_long (take n list) xs (omega arith) (omega arith)) here
