-- Sums over runs of consecutive numbers and over lists, and lists gathered over the members of a list.
use Rattle.std.specs.Prelude.{ℕ, zero, suc, ◌+◌, ◌-◌, List, [], ◌∷◌, ◌++◌}

-- v p + v (p + 1) + .., n of them
unfoldable pub total : ℕ → (ℕ → ℕ) → ℕ → ℕ
total zero v p = 0
total (suc n) v p = v p + total n v (suc p)

-- what stands from x on, short of the stop
unfoldable pub rest : (ℕ → ℕ) → ℕ → ℕ → ℕ
rest v stop x = total (stop - x) v x

-- the sum of a list
unfoldable pub sum : List ℕ → ℕ
sum [] = 0
sum (x ∷ xs) = x + sum xs

module _ {A : Type 0} where
  -- the lists of the members, one after the other
  unfoldable pub gather : (ℕ → List A) → List ℕ → List A
  gather g [] = []
  gather g (p ∷ ps) = g p ++ gather g ps
