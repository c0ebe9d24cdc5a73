-- Where sentences end: what the horizon of a place is; and which rows keep to one sentence: those of one slot, and exactly those of which
-- any two neighbouring places do.
use Prim.Native.Nat.{ℕ, zero, suc, ◌+◌, ◌-◌, ◌≤◌, ◌<◌}
use Rattle.std.proofs.Math.Decide.{ℕ_discrete, dec_lt}
use Rattle.std.proofs.Common.{arith, sym, ap, ◌∙◌, true≢false, ne_eqb}
use Rattle.std.specs.Prelude.{◌≡◌, ◌↔◌, Bool, true, false, List}
use Rattle.std.proofs.Math.Path.{refl}
use Rattle.basics.specs.Choice.{pick}
use Rattle.pattern.specs.declared.slot.Slot.{Slot}
use Rattle.pattern.specs.declared.Pattern.{Pattern}
use Rattle.pattern.specs.Patterns.{takes, slot_at}
use Rattle.pattern.specs.Accepted.{Accepted}
use Rattle.pattern.specs.Laws.Accepting.{takes_zero}
use Rattle.matching.specs.Occurrence.{View, plain, word_at, ends_at, Unbroken, at}
use Rattle.matching.proofs.Laws.Rows.{row-rises}
use Rattle.matching.specs.Spans.{next_end, horizon, NoEndFits}

-- ---- the first sentence end ahead

-- h is the first of the n places past p at which a sentence ends, or the last of them
pub record NextEnd (ends : ℕ → Bool) (n p h : ℕ) : Type 0 where
  pub past : p ≤ h
  pub within : h ≤ p + n
  pub clear : Unbroken ends p h
  pub stop : h < p + n → (p < h) × (ends h ≡ true)

module _ (ends : ℕ → Bool) where
  next_end-step : (n p h : ℕ) (b : Bool) → ends (suc p) ≡ b → NextEnd ends n (suc p) h → NextEnd ends (suc n) p (pick b (suc p) h)
  next_end-step n p h true e a = record { past = omega arith; within = omega arith; clear = λ x l k. absurd (omega arith); stop = λ l. (omega arith, e) }
  next_end-step n p h false e a = record {
    past = omega (arith, a.past);
    within = omega (arith, a.within);
    clear = λ x l k. elim (ℕ_discrete x (suc p)) [ yes q ↦ rw q e | no q ↦ a.clear x (omega arith) k ];
    stop = λ l. let s = a.stop (omega arith) in (omega arith, s.1);
  }

  pub next_end_is : (n p : ℕ) → NextEnd ends n p (next_end ends n p)
  unfolding next_end
  next_end_is zero p = record { past = omega arith; within = omega arith; clear = λ x l k. absurd (omega arith); stop = λ l. absurd (omega arith) }
  next_end_is (suc n) p = next_end-step n p (next_end ends n (suc p)) (ends (suc p)) refl (next_end_is n (suc p))

-- ---- the horizon

module _ (v : View) {p : ℕ} (inside : p ≤ v.places) where
  pub horizon_is : NextEnd v.ends (v.places - p) p (horizon v p)
  unfolding horizon
  horizon_is = next_end_is v.ends (v.places - p) p

  pub horizon_past : p ≤ horizon v p
  horizon_past = horizon_is.past

  pub horizon_inside : horizon v p ≤ v.places
  horizon_inside = omega (arith, horizon_is.within)

  -- a row that starts at p keeps to one sentence exactly if it ends at the horizon or before
  pub horizon-unbroken : {q : ℕ} → q ≤ horizon v p → Unbroken v.ends p q
  horizon-unbroken h x a b = horizon_is.clear x a (omega arith)

  pub horizon-reached : {q : ℕ} → q ≤ v.places → Unbroken v.ends p q → q ≤ horizon v p
  horizon-reached {q} h u = elim (dec_lt (horizon v p) q) [
    | yes l ↦ let s = horizon_is.stop (omega arith) in absurd (true≢false (sym s.1 ∙ u (horizon v p) s.0 l))
    | no l ↦ omega arith
  ]

-- the places from p on have the same horizon: all that are short of it, and where it is the text's last place this too
pub horizon_same : (v : View) {p q : ℕ} → p ≤ q → q ≤ v.places → (horizon v p < v.places → q < horizon v p) → horizon v q ≡ horizon v p
horizon_same v {p} {q} l h short =
    let i : p ≤ v.places = omega arith in
    let a : horizon v p ≤ horizon v q = horizon-reached v h (horizon_inside v i) (λ x y z. (horizon_is v i).clear x (omega arith) z) in
    elim (dec_lt (horizon v p) (horizon v q)) [
      | yes k ↦
          let b : horizon v p < v.places = omega (arith, horizon_inside v h) in
          let s = (horizon_is v i).stop (omega arith) in
          absurd (true≢false (sym s.1 ∙ (horizon_is v h).clear (horizon v p) (short b) k))
      | no k ↦ omega arith
    ]

-- ---- rows

-- a row of one slot breaks no sentence
pub one_slot : (ends : ℕ → Bool) {m : ℕ} → m ≡ 1 → (r : List ℕ) → Unbroken ends (at r 0) (at r (m - 1))
one_slot ends {m} e r x a b = let z : m - 1 ≡ 0 = omega arith in let c = rw z at b in absurd (omega arith)

-- where a slot does not take 0, no word that it takes is 0
taken_nonzero : (s : Slot) {w : ℕ} → takes s 0 ≡ false → takes s w ≡ true → w ≡ 0 → ⊥
taken_nonzero s z e d = true≢false (sym e ∙ ap (takes s) d ∙ z)

-- an accepted pattern takes no sentence end
pub accepted_no_end : {f : Pattern} → Accepted f → (t : List ℕ) → NoEndFits f.count (plain f t)
accepted_no_end {f} ok t = record { unfit = λ j h p e. ne_eqb (word_at t p) 0 (taken_nonzero (slot_at f j) (takes_zero (ok.slot j h)) e) }

module _ {m : ℕ} {v : View} (no_end : NoEndFits m v) (r : List ℕ) (fit : (j : ℕ) → j < m → v.fits j (at r j) ≡ true) (rise : (j : ℕ) → j + 1 < m → at r j < at r (j + 1)) where
  neighbours : ((j : ℕ) → j + 1 < m → Unbroken v.ends (at r j) (at r (j + 1))) → (k : ℕ) → k < m → Unbroken v.ends (at r 0) (at r k)
  neighbours u zero h x a b = absurd (omega arith)
  neighbours u (suc k) h x a b = let e : suc k ≡ k + 1 = omega arith in
      let c = rw e at b in
      elim (dec_lt x (at r k)) [
        | yes l ↦ neighbours u k (omega arith) x a l
        | no l ↦ elim (ℕ_discrete x (at r k)) [
          | yes q ↦ rw q (no_end.unfit k (omega arith) (at r k) (fit k (omega arith)))
          | no q ↦ u k (omega arith) x (omega arith) c
        ]
      ]

  -- a row that rises and fits keeps to one sentence exactly if no sentence ends between any two neighbouring places
  pub neighbours_iff : 1 ≤ m → Unbroken v.ends (at r 0) (at r (m - 1)) ↔ ((j : ℕ) → j + 1 < m → Unbroken v.ends (at r j) (at r (j + 1)))
  neighbours_iff some = (
    λ u j h x a b.
        let up : (k : ℕ) → k + 1 < m → at r k ≤ at r (k + 1) = λ k l. omega (arith, rise k l) in
        u x (omega (arith, row-rises r up {i = 0} {j = j} (omega arith) (omega arith))) (omega (arith, row-rises r up {i = j + 1} {j = m - 1} (omega arith) (omega arith))),
    λ u. neighbours u (m - 1) (omega arith),
  )

-- of a text and a row that rises and fits an accepted pattern
pub accepted-neighbours : {f : Pattern} → Accepted f → (t r : List ℕ) → ((j : ℕ) → j < f.count → (plain f t).fits j (at r j) ≡ true) → ((j : ℕ) → j + 1 < f.count → at r j < at r (j + 1))
    → Unbroken (ends_at t) (at r 0) (at r (f.count - 1)) ↔ ((j : ℕ) → j + 1 < f.count → Unbroken (ends_at t) (at r j) (at r (j + 1)))
accepted-neighbours ok t r fit rise = neighbours_iff (accepted_no_end ok t) r fit rise ok.some
