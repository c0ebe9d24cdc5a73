-- Two things, and three, in the columns of an order. Assumes nothing.
use Rattle.std.specs.Prelude.{ℕ, zero, suc, ◌<◌, List, [], ◌∷◌, ◌≡◌, refl, length, get_or}
use Rattle.std.proofs.Common.{arith, sym, subst}
use Rattle.format.specs.Shown.{Order2, Order3, hlw, hwl, lhw, lm, lwh, ml, three, two, whl, wlh}
use Rattle.format.specs.declared.names.Columns.{Columns}

-- the columns of `low`, `high` and `words`
abbrev pub cols : ℕ → ℕ → ℕ → Columns
cols i j k = record { low = i; high = j; words = k }

-- things in their columns
pub three_low : {i j k : ℕ} → Order3 i j k → (a b d : List ℕ) → get_or (three (cols i j k) a b d) i [] ≡ a
three_low lhw a b d = refl
three_low lwh a b d = refl
three_low hlw a b d = refl
three_low wlh a b d = refl
three_low hwl a b d = refl
three_low whl a b d = refl

pub three_high : {i j k : ℕ} → Order3 i j k → (a b d : List ℕ) → get_or (three (cols i j k) a b d) j [] ≡ b
three_high lhw a b d = refl
three_high lwh a b d = refl
three_high hlw a b d = refl
three_high wlh a b d = refl
three_high hwl a b d = refl
three_high whl a b d = refl

pub three_words : {i j k : ℕ} → Order3 i j k → (a b d : List ℕ) → get_or (three (cols i j k) a b d) k [] ≡ d
three_words lhw a b d = refl
three_words lwh a b d = refl
three_words hlw a b d = refl
three_words wlh a b d = refl
three_words hwl a b d = refl
three_words whl a b d = refl

-- and a list of three is its things in their columns
pub three_of : {i j k : ℕ} → Order3 i j k → (fs : List (List ℕ)) → length fs ≡ 3 → fs ≡ three (cols i j k) (get_or fs i []) (get_or fs j []) (get_or fs k [])
three_of o [] h = absurd (omega arith)
three_of o (a ∷ []) h = absurd (omega arith)
three_of o (a ∷ (b ∷ [])) h = absurd (omega arith)
three_of o (a ∷ (b ∷ (d ∷ (e ∷ fs)))) h = absurd (omega arith)
three_of o (a ∷ (b ∷ (d ∷ []))) h = go o
  where
    go : {x y z : ℕ} → Order3 x y z → a ∷ b ∷ d ∷ [] ≡ three (cols x y z) (get_or (a ∷ b ∷ d ∷ []) x []) (get_or (a ∷ b ∷ d ∷ []) y []) (get_or (a ∷ b ∷ d ∷ []) z [])
    go lhw = refl
    go lwh = refl
    go hlw = refl
    go wlh = refl
    go hwl = refl
    go whl = refl

pub two_of : {i j : ℕ} → Order2 i j → (fs : List (List ℕ)) → length fs ≡ 2 → fs ≡ two i (get_or fs i []) (get_or fs j [])
two_of o [] h = absurd (omega arith)
two_of o (a ∷ []) h = absurd (omega arith)
two_of o (a ∷ (b ∷ (d ∷ fs))) h = absurd (omega arith)
two_of o (a ∷ (b ∷ [])) h = go o
  where
    go : {x y : ℕ} → Order2 x y → a ∷ b ∷ [] ≡ two x (get_or (a ∷ b ∷ []) x []) (get_or (a ∷ b ∷ []) y [])
    go lm = refl
    go ml = refl

-- ---- columns that differ are an order

pub order_two : (i j : ℕ) → i < 2 → j < 2 → (i ≡ j → ⊥) → Order2 i j
order_two zero zero h k z = absurd (z refl)
order_two zero (suc zero) h k z = lm
order_two zero (suc (suc j)) h k z = absurd (omega arith)
order_two (suc zero) zero h k z = ml
order_two (suc zero) (suc zero) h k z = absurd (z refl)
order_two (suc zero) (suc (suc j)) h k z = absurd (omega arith)
order_two (suc (suc i)) j h k z = absurd (omega arith)

third : (i j k a : ℕ) → k ≡ a → Order3 i j a → Order3 i j k
third i j k a e o = subst (Order3 i j) (sym e) o

pub order_three : (i j k : ℕ) → i < 3 → j < 3 → k < 3 → (i ≡ j → ⊥) → (i ≡ k → ⊥) → (j ≡ k → ⊥) → Order3 i j k
order_three zero zero k a b d x y z = absurd (x refl)
order_three zero (suc zero) k a b d x y z = third 0 1 k 2 (omega arith) lhw
order_three zero (suc (suc zero)) k a b d x y z = third 0 2 k 1 (omega arith) lwh
order_three zero (suc (suc (suc j))) k a b d x y z = absurd (omega arith)
order_three (suc zero) zero k a b d x y z = third 1 0 k 2 (omega arith) hlw
order_three (suc zero) (suc zero) k a b d x y z = absurd (x refl)
order_three (suc zero) (suc (suc zero)) k a b d x y z = third 1 2 k 0 (omega arith) wlh
order_three (suc zero) (suc (suc (suc j))) k a b d x y z = absurd (omega arith)
order_three (suc (suc zero)) zero k a b d x y z = third 2 0 k 1 (omega arith) hwl
order_three (suc (suc zero)) (suc zero) k a b d x y z = third 2 1 k 0 (omega arith) whl
order_three (suc (suc zero)) (suc (suc zero)) k a b d x y z = absurd (x refl)
order_three (suc (suc zero)) (suc (suc (suc j))) k a b d x y z = absurd (omega arith)
order_three (suc (suc (suc i))) j k a b d x y z = absurd (omega arith)
