-- The bounds of the gaps, the distances they come to, and whether the span limits bind. Assumes nothing.
use Rattle.std.proofs.Common.{◌≡◌, ℕ, zero, suc, ◌+◌, ◌-◌, ◌<◌, ◌≤◌, min, Bool, true, ◌&&◌, leb, List, length, refl, arith, leb-true}
use mathlib.Core.Bool.{and-eq-true_iff}
use Rattle.pattern.specs.declared.Pattern.{Pattern}
use Rattle.pattern.specs.Patterns.{slot_at}
use Rattle.pattern.specs.Accepted.{Accepted}
use Rattle.matching.specs.Spans.{distance, near, far, width}
use Rattle.counting.specs.Laws.Inputs.{gaps}
use Rattle.counting.specs.Laws.Bound.{distance-bound}
use Rattle.counting.specs.declared.gaps.Gap.{Gap}
use Rattle.counting.specs.Steps.Plans.{gap_at, Gaps, unbound}

-- ---- the gap before each slot: done below j

pub record Gapping (f : Pattern) (j : ℕ) (G : List Gap) : Type 0 where
  pub long : length G ≡ 16
  pub inside : j ≤ f.count
  pub low : (k : ℕ) → k < j → (gap_at G k).low ≡ (slot_at f k).low
  pub high : (k : ℕ) → k < j → (gap_at G k).high ≡ (slot_at f k).high

-- ---- distances

pub distance-step : (gap : ℕ → ℕ) (i j : ℕ) → suc i ≡ j → distance gap j ≡ distance gap i + gap j + 1
unfolding distance
distance-step gap i j e = rw (← e)

-- r is the distance to slot k - 1
pub distance_more : (gap : ℕ → ℕ) (k : ℕ) {r x : ℕ} → 1 ≤ k → r ≡ distance gap (k - 1) → x ≡ gap k → r + x + 1 ≡ distance gap (k + 1 - 1)
distance_more gap k h e d = let i : k + 1 - 1 ≡ k = omega arith in rw i (omega (arith, distance-step gap (k - 1) k (omega arith)))

distance_same : (k : ℕ) (g h : ℕ → ℕ) → ((j : ℕ) → j ≤ k → g j ≡ h j) → distance g k ≡ distance h k
unfolding distance
distance_same zero g h e = refl
distance_same (suc k) g h e = omega (arith, distance_same k g h (λ j l. e j (omega arith)), e (suc k) (omega arith))

module _ {f : Pattern} {G : List Gap} (s : Gaps f G) (some : 1 ≤ f.count) where
  pub near_distance : distance (λ j. (gap_at G j).low) (f.count - 1) ≡ near f (f.count - 1)
  near_distance = distance_same (f.count - 1) (λ j. (gap_at G j).low) (λ j. (slot_at f j).low) (λ j l. s.low j (omega arith))

  pub far_distance : distance (λ j. (gap_at G j).high) (f.count - 1) ≡ far f (f.count - 1)
  far_distance = distance_same (f.count - 1) (λ j. (gap_at G j).high) (λ j. (slot_at f j).high) (λ j l. s.high j (omega arith))

module _ {f : Pattern} (ok : Accepted f) (j : ℕ) (h : j < f.count) where
  -- no slot is further than this from the first
  pub far-bound : far f j ≤ 960
  far-bound = let few = ok.few in omega (arith, distance-bound (λ j. (slot_at f j).high) f.count (λ j l. (gaps ok j l).1) j h)

  pub near_bound : near f j ≤ 960
  near_bound =
      let few = ok.few in
      omega (arith, distance-bound (λ j. (slot_at f j).low) f.count (λ j l. let g = gaps ok j l in omega arith) j h)

-- a row spans some places, and not too many
pub span_some : {f : Pattern} → Accepted f → {span : ℕ} → span ≡ width f → 1 ≤ span
unfolding width
span_some ok e = omega (arith, ok.least, ok.ordered)

pub span-few : {f : Pattern} → Accepted f → {span : ℕ} → span ≡ width f → span ≤ 961
unfolding width
span-few {f} ok e = let some = ok.some in omega (arith, far-bound ok (f.count - 1) (omega arith))

-- ---- whether the span limits bind

pub unbound_is : (f : Pattern) (n : ℕ) {least most close away : ℕ} → least ≡ f.least → most ≡ f.most → close ≡ near f (f.count - 1) → away ≡ far f (f.count - 1)
    → {b : Bool} → b ≡ (leb least (close + 1) && leb (min (away + 1) n) most) → b ≡ unbound f n
unfolding unbound
unbound_is f n el em ec ea e = rw (← el, ← em, ← ec, ← ea) e

pub unbound-spans : (f : Pattern) (n : ℕ) → unbound f n ≡ true → (f.least ≤ near f (f.count - 1) + 1) × (min (far f (f.count - 1) + 1) n ≤ f.most)
unfolding unbound
unbound-spans f n e =
    let b = (and-eq-true_iff (leb f.least (near f (f.count - 1) + 1)) (leb (min (far f (f.count - 1) + 1) n) f.most)).0 e in
    (leb-true _ _ b.0, leb-true _ _ b.1)
