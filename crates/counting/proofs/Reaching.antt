-- The entries of one slot, filled from the last index to the first. Assumes nothing.
use Rattle.std.proofs.Common.{◌≡◌, ℕ, ◌+◌, ◌-◌, ◌<◌, ◌≤◌, min, Bool, true, false, ◌&&◌, eqb, leb, List, length, get_or, set, sym, ◌∙◌, arith, eq-eqb, ne_eqb, le-leb, length-set, get_or-set_other, get_or-set_same}
use borrow.Author.Tests.{lt-leb}
use native.Mathlib.Decide.{ℕ_discrete}
use Rattle.counting.specs.Steps.Tables.{NextAlive, leads}

-- a slot fits, and a is at most b, or not
module _ {fit a b : ℕ} where
  pub both_hold : fit ≡ 1 → a ≤ b → (eqb fit 1 && leb a b) ≡ true
  both_hold e h = rw (eq-eqb fit 1 e, le-leb a b h)

  pub too_far : fit ≡ 1 → b < a → (eqb fit 1 && leb a b) ≡ false
  too_far e h = rw (eq-eqb fit 1 e, lt-leb a b h)

pub not_fit : (fit a b : ℕ) → (fit ≡ 1 → ⊥) → (eqb fit 1 && leb a b) ≡ false
not_fit fit a b n = rw (ne_eqb fit 1 n)

module _ {alive : ℕ → Bool} {n : ℕ} where
  least_here : (i : ℕ) → i < n → alive i ≡ true → NextAlive alive n i i
  least_here i h e = record { past = omega arith; gap = λ x a b c. absurd (omega arith); here = λ c. (h, e) }

  least_later : {i v : ℕ} → 0 < i → NextAlive alive n i v → alive (i - 1) ≡ false → NextAlive alive n (i - 1) v
  least_later {i} {v} pos s e = record {
    past = omega (arith, s.past);
    gap = λ x a b c. elim (ℕ_discrete x (i - 1)) [ yes q ↦ rw q e | no q ↦ s.gap x (omega arith) b c ];
    here = s.here;
  }

-- done from the index i on, and q is the entry there
pub record Reaching (alive : ℕ → Bool) (n base : ℕ) (N₀ : List ℕ) (i q : ℕ) (N : List ℕ) : Type 0 where
  pub long : length N ≡ length N₀
  pub inside : i ≤ n
  pub next : NextAlive alive n i q
  pub row : (k : ℕ) → i ≤ k → k < n → NextAlive alive n k (get_or N (base + k) 0)
  pub above : (k : ℕ) → base + n < k → get_or N k 0 ≡ get_or N₀ k 0

module _ {alive : ℕ → Bool} {n base : ℕ} {N₀ : List ℕ} {i q : ℕ} {N : List ℕ} (s : Reaching alive n base N₀ i q N) (pos : 0 < i) (room : base + n < length N₀) where
  stored : {v : ℕ} → NextAlive alive n (i - 1) v → Reaching alive n base N₀ (i - 1) v (set N (base + (i - 1)) v)
  stored {v} h =
      let a = s.inside in
      let b = s.long in
      record {
        long = simp length-set s.long;
        inside = omega arith;
        next = h;
        row = λ k c d. elim (ℕ_discrete k (i - 1)) [
          | yes e ↦ rw (e, get_or-set_same N (base + (i - 1)) v 0 (omega arith)) h
          | no e ↦ rw (get_or-set_other N (base + (i - 1)) (base + k) v 0 (λ z. omega arith)) (s.row k (omega arith) d)
        ];
        above = λ k c. get_or-set_other N (base + (i - 1)) k v 0 (λ z. omega arith) ∙ s.above k c;
      }

  pub reach_here : {b : Bool} → b ≡ alive (i - 1) → b ≡ true → Reaching alive n base N₀ (i - 1) (i - 1) (set N (base + (i - 1)) (i - 1))
  reach_here e t = let a = s.inside in stored (least_here (i - 1) (omega arith) (sym e ∙ t))

  pub reach_later : {b : Bool} → b ≡ alive (i - 1) → b ≡ false → Reaching alive n base N₀ (i - 1) q (set N (base + (i - 1)) q)
  reach_later e t = stored (least_later pos s.next (sym e ∙ t))

-- the next slot's entries are as they were
pub lead : (T : List ℕ) (low high m : ℕ) {n base : ℕ} {N₀ : List ℕ} {i q : ℕ} {N : List ℕ} → Reaching (leads T low high m base N₀) n base N₀ i q N → n ≤ 20000
    → (eqb (get_or T (i - 1) 0) 1 && leb (get_or N (base + 20001 + min (i - 1 + low + 1) m) 0) (i - 1 + high + 1)) ≡ leads T low high m base N₀ (i - 1)
lead T low high m {n} {base} {N₀} {i} {N = N} s h =
    let k = base + 20001 + min (i - 1 + low + 1) m in
    let d : get_or N k 0 ≡ get_or N₀ k 0 = s.above k (omega arith) in
    rw d
