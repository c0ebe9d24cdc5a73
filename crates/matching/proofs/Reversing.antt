-- The first entries of a list turned round in place, and what that makes of rows read from the end. Assumes nothing.
use Prim.Native.Nat.{ℕ, ◌+◌, ◌-◌, ◌≤◌}
use mathlib.Core.List.{List, [], ◌∷◌, ◌++◌, map, map-append, append-nil, reverse, reverse-append, reverse-cons}
use mathlib.Core.Path.{◌≡◌, refl, sym, ap, ◌∙◌}
use lib.ListN.{length, take, drop}
use Rattle.std.proofs.lemmas.List.{take_all, drop_all}
use Rattle.basics.specs.Written.{flat}
use Rattle.matching.specs.Steps.Turning.{flip}
use Rattle.matching.proofs.Writing.{flat_append, flat_one}

-- ---- all entries of the list in reverse are counted from the other end

pub turned_all : (n : ℕ) (l : List ℕ) {b r : List ℕ} {i : ℕ} → b ≡ reverse l → r ≡ map (λ p. n + 1 - p) (take i b) ++ drop i b → length b ≤ i → r ≡ flip n l
unfolding flip
turned_all n l {b} {i = i} e R h = R ∙ ap (λ (x : List ℕ). map (λ p. n + 1 - p) x ++ drop i b) (take_all i b h ∙ e) ∙ ap (λ (x : List ℕ). map (λ p. n + 1 - p) (reverse l) ++ x) (drop_all i b h) ∙ append-nil _

-- ---- rows one after the other, read from the end

flip-append : (n : ℕ) (a b : List ℕ) → flip n (a ++ b) ≡ flip n b ++ flip n a
unfolding flip
flip-append n a b = ap (map (λ p. n + 1 - p)) (reverse-append a b) ∙ map-append (λ p. n + 1 - p) (reverse b) (reverse a)

flat_cons : (r : List ℕ) (R : List (List ℕ)) → flat (r ∷ R) ≡ r ++ flat R
unfolding flat
flat_cons r R = refl

flip_none : (n : ℕ) → flip n (flat []) ≡ flat (reverse (map (flip n) []))
unfolding flip flat
flip_none n = refl

pub flat_reversed : (n : ℕ) (R : List (List ℕ)) → flip n (flat R) ≡ flat (reverse (map (flip n) R))
flat_reversed n [] = flip_none n
flat_reversed n (r ∷ R) =
    ap (flip n) (flat_cons r R)
    ∙ flip-append n r (flat R)
    ∙ ap (λ (l : List ℕ). l ++ flip n r) (flat_reversed n R)
    ∙ ap (λ (l : List ℕ). flat (reverse (map (flip n) R)) ++ l) (sym (flat_one (flip n r)))
    ∙ sym (flat_append (reverse (map (flip n) R)) (flip n r ∷ []))
    ∙ ap flat (sym (reverse-cons (flip n r) (map (flip n) R)))
