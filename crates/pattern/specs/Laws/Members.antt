-- The test of membership, as the code goes through a list.
use Rattle.std.specs.Prelude.{ℕ, ◌+◌, ◌<◌, ◌≡◌, refl, ◌↔◌, Bool, true, false, ◌||◌, length, get_or, drop, eqb}
use Rattle.std.proofs.Common.{add-one, sym, ◌∙◌, true≢false, drop-cons, eqb-true, eq-eqb, ne_eqb}
use Rattle.std.proofs.lemmas.Bool.{false≢true}
use mathlib.Core.List.{List, [], ◌∷◌, Memᴰ}
use Rattle.basics.specs.Laws.Choice.{is_false}
use Rattle.pattern.specs.Patterns.{member}

from_either : {w x : ℕ} {xs : List ℕ} (b : Bool) → (b ≡ true → x ≡ w) → (member w xs ≡ true → Memᴰ w xs) → (b || member w xs) ≡ true → Memᴰ w (x ∷ xs)
from_either true here there e = Memᴰ.head (sym (here refl))
from_either false here there e = Memᴰ.tail (there e)

pub member_true : (w : ℕ) (xs : List ℕ) → member w xs ≡ true → Memᴰ w xs
unfolding member
member_true w [] e = absurd (false≢true e)
member_true w (x ∷ xs) e = from_either (eqb x w) (eqb-true x w) (member_true w xs) e

or_right : (b c : Bool) → c ≡ true → (b || c) ≡ true
or_right true c e = refl
or_right false c e = e

pub mem-member : {w : ℕ} {xs : List ℕ} → Memᴰ w xs → member w xs ≡ true
unfolding member
mem-member {w} (Memᴰ.head {x = x} {xs = xs} e) = rw (eq-eqb x w (sym e))
mem-member {w} (Memᴰ.tail {x = x} {xs = xs} m) = or_right (eqb x w) (member w xs) (mem-member m)

pub member_false : (w : ℕ) (xs : List ℕ) → (member w xs ≡ false) ↔ (Memᴰ w xs → ⊥)
member_false w xs = (λ e m. true≢false (sym (mem-member m) ∙ e), λ n. is_false (member w xs) (λ e. n (member_true w xs e)))

-- ---- from element i on

pub member_here : (w : ℕ) (l : List ℕ) (i : ℕ) → i < length l → get_or l i 0 ≡ w → member w (drop i l) ≡ true
unfolding member
member_here w l i h e = rw (drop-cons l i 0) (simp (eq-eqb _ _ e))

pub member_later : (w : ℕ) (l : List ℕ) (i : ℕ) → i < length l → (get_or l i 0 ≡ w → ⊥) → member w (drop i l) ≡ member w (drop (i + 1) l)
unfolding member
member_later w l i h e = rw (add-one, drop-cons l i 0) (simp (ne_eqb _ _ e))

-- ---- the same words

-- the test tells the set apart, and nothing else
pub member-set : (w : ℕ) (xs ys : List ℕ) → Memᴰ w xs ↔ Memᴰ w ys → member w xs ≡ member w ys
member-set w xs ys same = go (member w xs) refl
  where
    go : (b : Bool) → member w xs ≡ b → b ≡ member w ys
    go true e = sym (mem-member (same.0 (member_true w xs e)))
    go false e = sym ((member_false w ys).1 (λ m. (member_false w xs).0 e (same.1 m)))
