-- Two halves make one number, and no other two make it: nothing is lost, in one number or in a list of them.
use Rattle.std.specs.Prelude.{◌≡◌, ℕ, zero, suc, ◌+◌, ◌*◌, ◌^◌, ◌<◌, List, [], ◌∷◌, ◌++◌, length, slice_index, refl}
use Rattle.std.proofs.Common.{div-lt_iff_lt-mul, arith, ap, lit<}
use Rattle.counting.specs.Halves.{high, low, halves, wholes}

-- ---- of one number

pub whole : (n : ℕ) → high n * 2 ^ 64 + low n ≡ n
whole n = omega arith

-- each fits 64 bits, where 128 bits hold the number
pub low_below : (n : ℕ) → low n < 2 ^ 64
low_below n = omega arith

pub high_below : (n : ℕ) → n < 2 ^ 128 → high n < 2 ^ 64
high_below n h = (div-lt_iff_lt-mul {k = 2 ^ 64} {x = n} {y = 2 ^ 64} (lit< tt)).1 h

module _ (h l : ℕ) (b : l < 2 ^ 64) where
  pub high_of : high (h * 2 ^ 64 + l) ≡ h
  high_of = omega arith

  pub low_of : low (h * 2 ^ 64 + l) ≡ l
  low_of = omega arith

-- a number of 64 bits has the high half 0 and is its low half
module _ (n : ℕ) (b : n < 2 ^ 64) where
  pub high_none : high n ≡ 0
  high_none = omega arith

  pub low_all : low n ≡ n
  low_all = omega arith

-- ---- of a list

pub wholes-halves : (ns : List ℕ) → wholes (halves ns) ≡ ns
unfolding halves wholes
wholes-halves [] = refl
wholes-halves (n ∷ ns) = rw (whole n, wholes-halves ns)

pub halves-length : (ns : List ℕ) → length (halves ns) ≡ length ns * 2
unfolding halves
halves-length [] = refl
halves-length (n ∷ ns) = omega (arith, halves-length ns)

pub halves-append : (ms ns : List ℕ) → halves (ms ++ ns) ≡ halves ms ++ halves ns
unfolding halves
halves-append [] ns = refl
halves-append (m ∷ ms) ns = ap (λ (l : List ℕ). high m ∷ low m ∷ l) (halves-append ms ns)

pub high_at : (ns : List ℕ) (i : ℕ) → slice_index (halves ns) (i * 2) ≡ high (slice_index ns i)
unfolding halves
high_at [] i = omega arith
high_at (n ∷ ns) zero = refl
high_at (n ∷ ns) (suc i) = let e : suc i * 2 ≡ suc (suc (i * 2)) = omega arith in rw e (high_at ns i)

pub low_at : (ns : List ℕ) (i : ℕ) → slice_index (halves ns) (i * 2 + 1) ≡ low (slice_index ns i)
unfolding halves
low_at [] i = omega arith
low_at (n ∷ ns) zero = refl
low_at (n ∷ ns) (suc i) = let e : suc i * 2 + 1 ≡ suc (suc (i * 2 + 1)) = omega arith in rw e (low_at ns i)
