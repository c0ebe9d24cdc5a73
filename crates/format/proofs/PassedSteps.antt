-- The line from a place to where the next one begins: the byte before that says whether it is closed, and so where it ends.
use Prim.Native.Nat.{ℕ, zero, suc, ◌+◌, ◌-◌, ◌≤◌, ◌<◌}
use native.Mathlib.Omega.{arith}
use mathlib.Core.Bool.{Bool, true, false}
use mathlib.Core.List.{List, [], ◌∷◌}
use mathlib.Core.Path.{◌≡◌, refl, sym, ◌∙◌, ap}
use lib.Dec.{eqb, ltb}
use lib.ListN.{length, get_or, drop, length-drop}
use lib.Seq.{get_or-drop}
use borrow.Author.Tests.{eqb-true, eqb-false, ltb-true, ltb-false}
use Rattle.basics.specs.Choice.{pick}
use Rattle.format.specs.Bytes.{cut}
use Rattle.format.specs.declared.reader.Line.{Line}
use Rattle.format.specs.Lines.{line_at, line_end}
use Rattle.format.proofs.ByteSteps.{cut_within}

-- ---- where bytes are cut, and before

cut_at : (t : List ℕ) → cut t 10 < length t → get_or t (cut t 10) 0 ≡ 10
unfolding cut
cut_at [] h = absurd (omega arith)
cut_at (b ∷ t) h = go (eqb b 10) refl h (cut_at t)
  where
    go : (x : Bool) → eqb b 10 ≡ x → pick x 0 (suc (cut t 10)) < suc (length t) → (cut t 10 < length t → get_or t (cut t 10) 0 ≡ 10) → get_or (b ∷ t) (pick x 0 (suc (cut t 10))) 0 ≡ 10
    go true e k r = eqb-true b 10 e
    go false e k r = r (omega arith)

cut_before : (t : List ℕ) (k : ℕ) → k < cut t 10 → get_or t k 0 ≡ 10 → ⊥
unfolding cut
cut_before [] k h e = omega arith
cut_before (b ∷ t) k h e = go (eqb b 10) refl k h e (cut_before t)
  where
    go : (x : Bool) → eqb b 10 ≡ x → (j : ℕ) → j < pick x 0 (suc (cut t 10)) → get_or (b ∷ t) j 0 ≡ 10 → ((i : ℕ) → i < cut t 10 → get_or t i 0 ≡ 10 → ⊥) → ⊥
    go true q j l g r = omega arith
    go false q zero l g r = eqb-false b 10 q g
    go false q (suc j) l g r = r j (omega arith) g

-- ---- a line, by the test for its line feed

data Ends (s : List ℕ) (l : Line) : Type 0 where
  shut : l.end < length s → l.next ≡ l.end + 1 → Ends s l
  left : length s ≤ l.end → l.next ≡ l.end → Ends s l

ends : (s : List ℕ) (at : ℕ) → Ends s (line_at s at)
unfolding line_at
ends s at = go (ltb (line_end s at) (length s)) refl
  where
    go : (x : Bool) → ltb (line_end s at) (length s) ≡ x → Ends s (record { end = line_end s at; next = pick x (line_end s at + 1) (line_end s at) })
    go true q = shut (ltb-true (line_end s at) (length s) q) refl
    go false q = left (ltb-false (line_end s at) (length s) q) refl

end_is : (s : List ℕ) (at : ℕ) → (line_at s at).end ≡ at + cut (drop at s) 10
unfolding line_at
end_is s at = refl

module _ {s : List ℕ} {at : ℕ} {l : Line} (is : l.end ≡ at + cut (drop at s) 10) where
  none_end : Ends s l → l.next ≤ at → l.next ≡ l.end
  none_end (shut a b) h = absurd (omega arith)
  none_end (left a b) h = b

  next_inside : Ends s l → at < l.next → l.next - 1 < length s
  next_inside (shut a b) h = omega arith
  next_inside (left a b) h = omega (arith, cut_within (drop at s) 10, length-drop at s)

  shut_end : Ends s l → at < l.next → get_or s (l.next - 1) 0 ≡ 10 → l.next - 1 ≡ l.end
  shut_end (shut a b) h e = omega arith
  shut_end (left a b) h e =
      let k : at + (cut (drop at s) 10 - 1) ≡ l.next - 1 = omega arith in
      absurd (cut_before (drop at s) (cut (drop at s) 10 - 1) (omega arith) (get_or-drop at s (cut (drop at s) 10 - 1) 0 ∙ (ap (λ (j : ℕ). get_or s j 0) k ∙ e)))

  left_end : Ends s l → at < l.next → (get_or s (l.next - 1) 0 ≡ 10 → ⊥) → l.next ≡ l.end
  left_end (shut a b) h n =
      let k : l.next - 1 ≡ at + cut (drop at s) 10 = omega arith in
      let c : cut (drop at s) 10 < length (drop at s) = omega (arith, length-drop at s) in
      absurd (n (ap (λ (j : ℕ). get_or s j 0) k ∙ (sym (get_or-drop at s (cut (drop at s) 10) 0) ∙ cut_at (drop at s) c)))
  left_end (left a b) h n = b

line_of : (l : Line) (e n : ℕ) → e ≡ l.end → n ≡ l.next → record { end = e; next = n } ≡ l
line_of l e n p q = λ i. record { end = p i; next = q i }

-- ---- the line that was passed

module _ (s : List ℕ) (at next : ℕ) (is : next ≡ (line_at s at).next) where
  pub passed_none : next ≤ at → record { end = next; next = next } ≡ line_at s at
  passed_none h = line_of (line_at s at) next next (is ∙ none_end (end_is s at) (ends s at) (omega arith)) is

  pub passed_inside : at < next → next - 1 < length s
  passed_inside h = let k = next_inside (end_is s at) (ends s at) (omega arith) in omega arith

  pub passed_closed : at < next → get_or s (next - 1) 0 ≡ 10 → record { end = next - 1; next = next } ≡ line_at s at
  passed_closed h e = line_of (line_at s at) (next - 1) next (ap (λ (k : ℕ). k - 1) is ∙ shut_end (end_is s at) (ends s at) (omega arith) (ap (λ (k : ℕ). get_or s (k - 1) 0) (sym is) ∙ e)) is

  pub passed_open : at < next → (get_or s (next - 1) 0 ≡ 10 → ⊥) → record { end = next; next = next } ≡ line_at s at
  passed_open h n = line_of (line_at s at) next next (is ∙ left_end (end_is s at) (ends s at) (omega arith) (λ e. n (ap (λ (k : ℕ). get_or s (k - 1) 0) is ∙ e))) is
