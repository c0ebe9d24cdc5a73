-- How many rows there can be: the number fits two halves of 64 bits.
use Rattle.std.specs.Prelude.{ℕ, zero, suc, ◌+◌, ◌-◌, ◌*◌, ◌^◌, ◌<◌, ◌≤◌, length}
use Rattle.std.proofs.Math.Nat.{pow-succ', mul-le-mul_right, pow-le-pow_right}
use Rattle.std.proofs.Common.{mul-le-mul, lt_of_le_of_lt, le_trans, arith, lit<, lit≤}
use Rattle.pattern.specs.declared.Pattern.{Pattern}
use Rattle.pattern.specs.Patterns.{slot_at}
use Rattle.matching.specs.Occurrence.{View}
use Rattle.basics.specs.Sums.{total}
use Rattle.basics.specs.Laws.Sums.{total-bound}
use Rattle.basics.specs.Laws.Choice.{when-bound}
use Rattle.matching.specs.Branches.{ways}
use Rattle.matching.specs.Spans.{distance, limit, least}
use Rattle.matching.proofs.Laws.Cover.{tally_each}
use Rattle.counting.specs.Laws.Inputs.{gaps}
use Rattle.counting.specs.Steps.Inputs.{Input}
use Rattle.matching.specs.Occurrences.{occurrences_in}

module _ (f : Pattern) (v : View) (gaps : (j : ℕ) → j < f.count → ((slot_at f j).low ≤ (slot_at f j).high) × ((slot_at f j).high ≤ 63)) where
  pub ways-bound : (k : ℕ) (stop : ℕ → ℕ) (from j p : ℕ) → j + k < f.count → ways f v stop from k j p ≤ 64 ^ k
  unfolding ways
  ways-bound zero stop from j p h = when-bound _ (lit≤ tt)
  ways-bound (suc k) stop from j p h =
      let lo = (slot_at f (suc j)).low in
      let hi = (slot_at f (suc j)).high in
      let g : hi ≤ 63 = (gaps (suc j) (omega arith)).1 in
      let a = total-bound (hi + 1 - lo) (64 ^ k) (ways f v stop from k (suc j)) (p + lo + 1) (λ q. ways-bound k stop from (suc j) q (omega arith)) in
      let b : (hi + 1 - lo) * 64 ^ k ≤ 64 * 64 ^ k = mul-le-mul_right (64 ^ k) (omega arith) in
      when-bound _ (rw pow-succ' (le_trans a b))

  pub total_fits : (n k : ℕ) (stop : ℕ → ℕ) (from j p : ℕ) → j + k < f.count → f.count ≤ 16 → n ≤ 20001 → total n (ways f v stop from k j) p < 2 ^ 128
  total_fits n k stop from j p h few short =
      let a = total-bound n (64 ^ k) (ways f v stop from k j) p (λ q. ways-bound k stop from j q h) in
      let b : n * 64 ^ k ≤ 20001 * 64 ^ 15 = mul-le-mul short (pow-le-pow_right (lit< tt) {i = k} {j = 15} (omega arith)) in
      lt_of_le_of_lt (le_trans a b) (lit< tt)

module _ {f : Pattern} {v : View} (ok : Input f v) where
  -- the tally fits two halves
  pub tally_fits : length (occurrences_in f v) < 2 ^ 128
  tally_fits =
      let k = f.count - 1 in
      let n = v.places in
      let some = ok.pattern.some in
      let few = ok.pattern.few in
      let short = ok.short in
      let starts : ℕ → ℕ = λ p. ways f v (limit f v p) (least f p) k 0 p in
      let a = total-bound n (64 ^ k) starts 1 (λ q. ways-bound f v (gaps ok.pattern) k (limit f v q) (least f q) 0 q (omega arith)) in
      let b : n * 64 ^ k ≤ 20001 * 64 ^ 15 = mul-le-mul {n₁ = n} {n₂ = 20001} (omega arith) (pow-le-pow_right (lit< tt) {i = k} {j = 15} (omega arith)) in
      rw (tally_each f v some ok.pattern.least) (lt_of_le_of_lt (le_trans a b) (lit< tt))

-- gaps of at most 63 words
pub distance-bound : (gap : ℕ → ℕ) (m : ℕ) → ((j : ℕ) → j < m → gap j ≤ 63) → (k : ℕ) → k < m → distance gap k ≤ 64 * k
unfolding distance
distance-bound gap m h zero l = omega arith
distance-bound gap m h (suc k) l = omega (arith, distance-bound gap m h k (omega arith), h (suc k) l)
