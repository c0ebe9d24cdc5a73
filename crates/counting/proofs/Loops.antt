-- Rows of numbers, and what the loops keep of them. Assumes nothing.
use Rattle.std.proofs.Common.{◌≡◌, ℕ, zero, suc, ◌+◌, ◌-◌, ◌^◌, ◌<◌, ◌≤◌, min, Bool, true, false, List, length, get_or, take, set, sum, sym, refl, ap, ◌∙◌, arith, length-set, get_or-set_other, get_or-set_same, below_more, eq-eqb, ne_eqb}
use mir.Val.{bool_byte}
use native.Mathlib.Nat.{sub_self}
use Rattle.basics.specs.Sums.{total, rest}
use Rattle.std.proofs.lemmas.List.Sums.{sum_by_more}
use Rattle.basics.specs.Laws.Sums.{total_split, total_same, total-bound}
use Rattle.basics.specs.Choice.{when}
use Rattle.counting.specs.Steps.Numbers.{val}
use Rattle.counting.specs.Steps.Rows.{kept, ending, onward}

-- ---- the sum of the first n numbers

total_last : (n : ℕ) (v : ℕ → ℕ) → total (n + 1) v 0 ≡ total n v 0 + v n
unfolding total
total_last n v = omega (arith, total_split n 1 (n + 1) v 0 n refl (omega arith))

total_nothing : (v : ℕ → ℕ) (p : ℕ) → total zero v p ≡ 0
unfolding total
total_nothing v p = refl

pub sum_total : (N : List ℕ) (n : ℕ) → n ≤ length N → sum (take n N) ≡ total n (val N) 0
sum_total N zero h = sym (total_nothing (val N) 0)
sum_total N (suc n) h =
    let e : suc n ≡ n + 1 = omega arith in
    let a = sum_by_more (λ (x : ℕ). x) N n 0 (omega arith) in
    rw e (omega (arith, a, total_last n (val N), sum_total N n (omega arith)))

pub rest_stop : (v : ℕ → ℕ) (n : ℕ) → rest v n n ≡ 0
unfolding rest total
rest_stop v n = rw (sub_self n)

-- ---- what is written for a number

pub kept_sum : (v : ℕ → ℕ) (i : ℕ) → kept true v i ≡ total (i + 1) v 0
unfolding kept when
kept_sum v i = sym (total_last i v)

pub kept_own : (v : ℕ → ℕ) (i : ℕ) → kept false v i ≡ v i
unfolding kept when
kept_own v i = omega arith

pub kept_same : (summed : Bool) (u v : ℕ → ℕ) (i : ℕ) → ((k : ℕ) → k ≤ i → u k ≡ v k) → kept summed u i ≡ kept summed v i
unfolding kept
kept_same summed u v i h =
    let e = total_same i u v 0 0 (λ k l. let z : 0 + k ≡ k = omega arith in rw z (h k (omega arith))) in
    rw (h i (omega arith), e) refl

-- ---- a row of numbers or of their sums: done below i, and from i on as it was

when_below : (b : Bool) (x : ℕ) → when b x ≤ x
unfolding when
when_below true x = omega arith
when_below false x = omega arith

pub record Writing (summed : Bool) (v : ℕ → ℕ) (N₀ : List ℕ) (i s : ℕ) (N : List ℕ) : Type 0 where
  pub long : length N ≡ length N₀
  pub sum : when summed s ≡ when summed (total i v 0)
  pub done : (k : ℕ) → k < i → val N k ≡ kept summed v k
  pub todo : (k : ℕ) → i ≤ k → val N k ≡ val N₀ k

pub writing_begin : {summed : Bool} {v : ℕ → ℕ} {N : List ℕ} → Writing summed v N 0 0 N
writing_begin {summed} {v} = record { long = refl; sum = ap (when summed) (sym (total_nothing v 0)); done = λ k h. absurd (omega arith); todo = λ k h. refl }

-- c is what the number at i, which is x, is added to
module _ {summed : Bool} {v : ℕ → ℕ} {N₀ : List ℕ} {i s : ℕ} {N : List ℕ} (w : Writing summed v N₀ i s N) {c x : ℕ} (e : c ≡ when summed s) (d : x ≡ v i) where
  pub writing_fits : total (i + 1) v 0 < 2 ^ 128 → c + x < 2 ^ 128
  writing_fits h = omega (arith, h, e, d, w.sum, when_below summed (total i v 0), total_last i v)

  next : (b : Bool) → c ≡ when b (total i v 0) → when b (c + x) ≡ when b (total (i + 1) v 0)
  unfolding when
  next true q = omega (arith, q, d, total_last i v)
  next false q = refl

  pub writing_more : i < length N₀ → Writing summed v N₀ (i + 1) (c + x) (set N i (c + x))
  unfolding kept
  writing_more h =
      let b = w.long in
      let y : c + x ≡ when summed (total i v 0) + v i = omega (arith, e, d, w.sum) in
      record {
        long = simp length-set w.long;
        sum = next summed (e ∙ w.sum);
        done = below_more _ i (λ k l. get_or-set_other N i k (c + x) 0 (λ q. omega arith) ∙ w.done k l) (get_or-set_same N i (c + x) 0 (omega arith) ∙ y);
        todo = λ k l. get_or-set_other N i k (c + x) 0 (λ q. omega arith) ∙ w.todo k (omega arith);
      }

-- ---- the last slot's row

byte_when : (b : Bool) → bool_byte b ≡ when b 1
unfolding when
byte_when true = refl
byte_when false = refl

-- a test as a number
pub when_byte : {x : ℕ} {b c : Bool} → x ≡ bool_byte b → b ≡ c → x ≡ when c 1
when_byte {c = c} e d = rw d at e ∙ byte_when c

-- its sums are small
pub endings_few : (T : List ℕ) (first from n : ℕ) → total n (ending T first from) 0 ≤ n
endings_few T first from n = omega (arith, total-bound n 1 (ending T first from) 0 (λ q. when_below _ 1))

-- ---- a slot's number, from the sums of the next slot's row

module _ (T : List ℕ) (low high m : ℕ) {summed : Bool} {i s : ℕ} {N₀ N : List ℕ} (w : Writing summed (onward T low high m N₀) N₀ i s N) where
  spread_here : {near far : ℕ} → i < m → near ≡ min (i + low) (m - 1) → far ≡ min (i + high + 1) (m - 1) → get_or T i 0 ≡ 1 → val N far - val N near ≡ onward T low high m N₀ i
  unfolding when
  spread_here {near} {far} h en ef q =
      let y = eq-eqb (get_or T i 0) 1 q in
      rw (y, w.todo near (omega (arith, en)), w.todo far (omega (arith, ef)), en, ef) refl

  -- where the widest gap ends inside that row
  pub spread_inside : low ≤ high → i + high + 1 < m → get_or T i 0 ≡ 1 → val N (i + high + 1) - val N (i + low) ≡ onward T low high m N₀ i
  spread_inside l h q = spread_here (omega (arith, h)) (omega (arith, l, h)) (omega (arith, h)) q

  -- and where it ends past it
  pub spread_past : {near : ℕ} → i < m → m ≤ i + high + 2 → near ≡ min (i + low) (m - 1) → get_or T i 0 ≡ 1 → val N (m - 1) - val N near ≡ onward T low high m N₀ i
  spread_past h past en q = spread_here h en (omega (arith, past)) q

pub spread_skip : (T : List ℕ) (low high m : ℕ) (N : List ℕ) (i : ℕ) → (get_or T i 0 ≡ 1 → ⊥) → 0 ≡ onward T low high m N i
unfolding when
spread_skip T low high m N i q = rw (ne_eqb (get_or T i 0) 1 q)
