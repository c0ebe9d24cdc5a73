-- Laws of sums over runs of consecutive numbers and over lists, and of lists gathered over the members of a list.
use Rattle.std.specs.Prelude.{ℕ, zero, suc, ◌+◌, ◌-◌, ◌*◌, ◌≤◌, ◌<◌, ◌≡◌, refl, get_or}
use Rattle.std.proofs.Common.{suc-mul, arith}
use mathlib.Core.List.Memᴰ
use mathlib.Core.List.{List, [], ◌∷◌, Memᴰ}
use Rattle.basics.specs.Collections.{Every, none, more}
use Rattle.basics.specs.Laws.Collections.{every_append}
use Rattle.basics.specs.Sums.{total, rest, sum, gather}

-- a sum in two parts
pub total_split : (m n k : ℕ) (v : ℕ → ℕ) (p q : ℕ) → k ≡ m + n → q ≡ p + m → total k v p ≡ total m v p + total n v q
unfolding total
total_split zero n k v p q e d = let a : k ≡ n = omega arith in let b : q ≡ p = omega arith in rw (a, b) (omega arith)
total_split (suc m) n zero v p q e d = absurd (omega arith)
total_split (suc m) n (suc k) v p q e d = omega (arith, total_split m n k v (suc p) q (omega arith) (omega arith))

-- a sum of nothing
pub total_none : (n : ℕ) (v : ℕ → ℕ) (p : ℕ) → ((q : ℕ) → p ≤ q → v q ≡ 0) → total n v p ≡ 0
unfolding total
total_none zero v p h = refl
total_none (suc n) v p h = omega (arith, h p (omega arith), total_none n v (suc p) (λ q l. h q (omega arith)))

-- the same numbers elsewhere
pub total_same : (n : ℕ) (u v : ℕ → ℕ) (p q : ℕ) → ((i : ℕ) → i < n → u (p + i) ≡ v (q + i)) → total n u p ≡ total n v q
unfolding total
total_same zero u v p q h = refl
total_same (suc n) u v p q h =
    let a : p + 0 ≡ p = omega arith in
    let b : q + 0 ≡ q = omega arith in
    let e : u p ≡ v q = rw (a, b) at (h 0 (omega arith)) in
    omega (
      arith,
      e,
      total_same n u v (suc p) (suc q) (λ i l.
          let c : suc p + i ≡ p + suc i = omega arith in
          let d : suc q + i ≡ q + suc i = omega arith in
          rw (c, d) (h (suc i) (omega arith))),
    )

-- n numbers of at most b
pub total-bound : (n b : ℕ) (v : ℕ → ℕ) (p : ℕ) → ((q : ℕ) → v q ≤ b) → total n v p ≤ n * b
unfolding total
total-bound zero b v p h = omega arith
total-bound (suc n) b v p h = omega (arith, suc-mul n b, h p, total-bound n b v (suc p) h)

-- the number at x, and what stands after it
pub rest_step : (v : ℕ → ℕ) (stop x : ℕ) → x < stop → rest v stop x ≡ v x + rest v stop (suc x)
unfolding rest total
rest_step v stop x h = omega (arith, total_split 1 (stop - suc x) (stop - x) v x (suc x) (omega arith) (omega arith))

-- a run that ends at y, short of the stop: the difference of what stands from its two ends on
pub run_inside : (v : ℕ → ℕ) (stop n x y : ℕ) → y ≡ x + n → y ≤ stop → rest v stop x ≡ total n v x + rest v stop y
unfolding rest
run_inside v stop n x y e h = total_split n (stop - y) (stop - x) v x y (omega arith) e

-- a run that ends past the stop, where nothing stands
pub run_past : (v : ℕ → ℕ) (stop n x : ℕ) → ((q : ℕ) → stop ≤ q → v q ≡ 0) → x ≤ stop → stop ≤ x + n → rest v stop x ≡ total n v x
unfolding rest
run_past v stop n x z h k =
    omega (arith, total_split (stop - x) (x + n - stop) n v x stop (omega arith) (omega arith), total_none (x + n - stop) v stop z)

-- no member is more than the sum of the list
pub sum_at : (ns : List ℕ) (i : ℕ) → get_or ns i 0 ≤ sum ns
unfolding sum
sum_at [] i = omega arith
sum_at (n ∷ ns) zero = omega arith
sum_at (n ∷ ns) (suc i) = omega (arith, sum_at ns i)

module _ {A : Type 0} where
  -- a member of a list that is gathered is gathered
  pub gather-mem : (g : ℕ → List A) {p : ℕ} {ps : List ℕ} {r : A} → Memᴰ p ps → Memᴰ r (g p) → Memᴰ r (gather g ps)
  unfolding gather
  gather-mem g (Memᴰ.head {xs = ps} e) m = rw e at (Memᴰ.append_left (gather g ps) m)
  gather-mem g (Memᴰ.tail {x = q} n) m = Memᴰ.append_right (g q) (gather-mem g n m)

  -- what holds of the lists that are gathered holds of all
  pub gather-every : {P : A → Type 0} {Q : ℕ → Type 0} (g : ℕ → List A) → ((p : ℕ) → Q p → Every P (g p)) → {ps : List ℕ} → Every Q ps → Every P (gather g ps)
  unfolding gather
  gather-every g h none = none
  gather-every g h (more {x = p} q e) = every_append (h p q) (gather-every g h e)
