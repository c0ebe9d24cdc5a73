-- The digits of a number: the last one apart, and how many there are. Assumes nothing.
use Rattle.std.specs.Prelude.{ℕ, zero, suc, ◌+◌, ◌/◌, ◌%◌, ◌≤◌, ◌<◌, ◌≡◌, Bool, true, false, List, [], ◌∷◌, ◌++◌, ltb, length}
use Rattle.std.proofs.Common.{arith, ◌∙◌, ap, length-append, le-ltb, lt-ltb}
use Rattle.basics.specs.Choice.{pick}
use Rattle.basics.specs.Digits.{digits_in, ten}

-- more room changes no digit
pub digits_room : (f n : ℕ) → n < ten f → digits_in f n ≡ digits_in (suc f) n
unfolding digits_in
digits_room zero n h = rw (lt-ltb n 10 h)
digits_room (suc f) n h = ap (λ (l : List ℕ). pick (ltb n 10) ((48 + n) ∷ []) (l ++ ((48 + n % 10) ∷ []))) (digits_room f (n / 10) (omega arith))

-- below a bound, and below all that are larger
digits_below : (k f n : ℕ) → n < ten f → n < ten (k + f)
digits_below zero f n h = let e : 0 + f ≡ f = omega arith in rw e h
digits_below (suc k) f n h = let e : suc k + f ≡ suc (k + f) = omega arith in rw e (omega (arith, digits_below k f n h))

-- however much more room
pub digits-wide : (k f n : ℕ) → n < ten f → digits_in f n ≡ digits_in (k + f) n
digits-wide zero f n h = let e : f ≡ 0 + f = omega arith in ap (λ (m : ℕ). digits_in m n) e
digits-wide (suc k) f n h =
    let e : suc (k + f) ≡ suc k + f = omega arith in
    digits-wide k f n h ∙ digits_room (k + f) n (digits_below k f n h) ∙ ap (λ (m : ℕ). digits_in m n) e

-- a number below ten is one digit
pub one_digit : (n : ℕ) → n < 10 → digits_in 19 n ≡ (48 + n) ∷ []
unfolding digits_in
one_digit n h = rw (lt-ltb n 10 h)

-- any other is what stands before its last digit, and that digit
pub last_digit : (n : ℕ) → 10 ≤ n → n < 18446744073709551616 → digits_in 19 n ≡ digits_in 19 (n / 10) ++ ((48 + n % 10) ∷ [])
unfolding digits_in
last_digit n h s = rw (le-ltb n 10 h) (ap (λ (l : List ℕ). l ++ ((48 + n % 10) ∷ [])) (digits_room 18 (n / 10) (omega arith)))

-- ---- how many

-- one more than without the last
digits_more : (f g n : ℕ) → length (digits_in f (n / 10)) ≤ g → length (digits_in (suc f) n) ≤ g + 1
unfolding digits_in
digits_more f g n h = go (ltb n 10)
  where
    go : (x : Bool) → length (pick x ((48 + n) ∷ []) (digits_in f (n / 10) ++ ((48 + n % 10) ∷ []))) ≤ g + 1
    go true = omega arith
    go false = simp length-append (omega arith)

-- no more than its bound says
pub few-digits : (f g n : ℕ) → n < ten g → length (digits_in f n) ≤ g + 1
unfolding digits_in
few-digits zero g n h = omega arith
few-digits (suc f) zero n h = rw (lt-ltb n 10 h) (omega arith)
few-digits (suc f) (suc g) n h = omega (arith, digits_more f (g + 1) n (few-digits f g (n / 10) (omega arith)))

-- no more than there is room for
pub most-digits : (f n : ℕ) → length (digits_in f n) ≤ f + 1
unfolding digits_in
most-digits zero n = omega arith
most-digits (suc f) n = omega (arith, digits_more f (f + 1) n (most-digits f (n / 10)))
