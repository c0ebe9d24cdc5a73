-- A list of rows in strict lexicographic order is determined by its members.
use Rattle.std.specs.Prelude.{ℕ, ◌≡◌, refl}
use Rattle.std.proofs.Common.{arith, sym, ⊎_elim}
use mathlib.Core.List.Memᴰ
use mathlib.Core.List.{List, ◌∷◌, Memᴰ}
use Rattle.basics.specs.Collections.{Every, Pairwise, none, more}
use Rattle.basics.specs.Laws.Collections.{every-mem}
use Rattle.matching.specs.Occurrences.{Lex, here, after}

-- no row stands before another and that one before it; the rows of the second are named apart
lex_apart : {r s s' r' : List ℕ} → Lex r s → Lex s' r' → s ≡ s' → r ≡ r' → ⊥
lex_apart (here {p = p} {q = q} l) (here {p = p'} {q = q'} m) e f = let a : q ≡ p' = cc in let b : p ≡ q' = cc in omega arith
lex_apart (here {p = p} {q = q} l) (after {p = p'} m) e f = let a : q ≡ p' = cc in let b : p ≡ p' = cc in omega arith
lex_apart (after {p = p} l) (here {p = p'} {q = q'} m) e f = let a : p ≡ p' = cc in let b : p ≡ q' = cc in omega arith
lex_apart (after {r = r} {s = s} l) (after {r = s'} {s = r'} m) e f = let a : s ≡ s' = cc in let b : r ≡ r' = cc in lex_apart l m a b

lex_asym : {r s : List ℕ} → Lex r s → Lex s r → ⊥
lex_asym l m = lex_apart l m refl refl

lex_irrefl : {r s : List ℕ} → Lex r s → s ≡ r → ⊥
lex_irrefl l e = let k = rw e at l in lex_asym k k

same_head : {x y : List ℕ} {xs ys : List (List ℕ)} → Every (Lex x) xs → Every (Lex y) ys → Memᴰ x (y ∷ ys) → Memᴰ y (x ∷ xs) → x ≡ y
same_head ex ey m n =
    ⊎_elim (λ e. e) (λ a. ⊎_elim (λ e. sym e) (λ b. absurd (lex_asym (every-mem ex b) (every-mem ey a))) (Memᴰ.cases_cons n)) (Memᴰ.cases_cons m)

same_tail : {x y : List ℕ} {xs ys : List (List ℕ)} → x ≡ y → Every (Lex x) xs → ((r : List ℕ) → Memᴰ r (x ∷ xs) → Memᴰ r (y ∷ ys)) → (r : List ℕ) → Memᴰ r xs → Memᴰ r ys
same_tail {x} {y} q ex h r m =
    ⊎_elim (λ e. absurd (lex_irrefl (every-mem ex m) (cc))) (λ a. a) (Memᴰ.cases_cons (h r (Memᴰ.tail m)))

pub lex_unique : {xs ys : List (List ℕ)} → Pairwise Lex xs → Pairwise Lex ys
    → ((r : List ℕ) → Memᴰ r xs → Memᴰ r ys) → ((r : List ℕ) → Memᴰ r ys → Memᴰ r xs) → xs ≡ ys
lex_unique none none h k = refl
lex_unique none (more {x = y} e p) h k = absurd (Memᴰ.not-nil (k y (Memᴰ.head refl)))
lex_unique (more {x = x} e p) none h k = absurd (Memᴰ.not-nil (h x (Memᴰ.head refl)))
lex_unique (more {x = x} {xs = xs} e p) (more {x = y} {xs = ys} d q) h k =
    let s : x ≡ y = same_head e d (h x (Memᴰ.head refl)) (k y (Memᴰ.head refl)) in
    let t : xs ≡ ys = lex_unique p q (same_tail s e h) (same_tail (sym s) d k) in
    cc
