-- What the tests of merging accept: two accepted patterns with equally many slots, whose merged slots and span have something left, and whose
-- slots have room.
use Rattle.std.specs.Prelude.{ℕ, ◌+◌, ◌≤◌, ◌<◌, ◌≡◌, refl, ◌↔◌, true, not, ltb, eqb, Ok}
use Rattle.std.proofs.Common.{arith, ap}
use borrow.Author.Tests.{ltb-false, le-ltb, eqb-true, eq-eqb, not-false}
use Rattle.pattern.specs.declared.slot.Slot.{Slot}
use Rattle.pattern.specs.declared.Pattern.{Pattern}
use Rattle.pattern.specs.declared.refusal.Refusal.TheVariants.{SlotsDiffer, NothingShared, TooManyWords}
use Rattle.pattern.specs.Patterns.{slot_at}
use Rattle.pattern.specs.Tests.{slots_verdict, pattern_verdict}
use Rattle.pattern.specs.Accepted.{Accepted}
use Rattle.pattern.specs.Laws.Accepting.{refuse-accepted, accepted-refuse, then_accepted, accepted_then, slots-accepted, pattern-accepted}
use Rattle.merging.specs.Merging.{merged_pattern, remains, shared_verdict, room_verdict, result_verdict, merge_verdict}

-- ---- a slot

shared-accepted : (j : ℕ) (s : Slot) → (shared_verdict j s ≡ Ok tt) ↔ (remains s ≡ true)
shared-accepted j s = (
  λ e. not-false (remains s) (refuse-accepted (not (remains s)) NothingShared (Ok tt) e).0,
  λ e. accepted-refuse (not (remains s)) NothingShared (Ok tt) (ap not e) refl,
)

room_accepted : (j : ℕ) (s : Slot) → (room_verdict j s ≡ Ok tt) ↔ (s.count ≤ 8)
room_accepted j s = (
  λ e. ltb-false 8 s.count (refuse-accepted (ltb 8 s.count) TooManyWords (Ok tt) e).0,
  λ h. accepted-refuse (ltb 8 s.count) TooManyWords (Ok tt) (le-ltb 8 s.count h) refl,
)

-- ---- 18 and 19

-- something is left of each slot, and of the span
pub record Remains (m : Pattern) : Type 0 where
  pub slot : (j : ℕ) → j < m.count → remains (slot_at m j) ≡ true
  pub span : m.least ≤ m.most

-- no slot lists more than eight words
pub record Fits (m : Pattern) : Type 0 where
  pub slot : (j : ℕ) → j < m.count → (slot_at m j).count ≤ 8

module _ (m : Pattern) where
  slots_remain : (slots_verdict shared_verdict m 0 m.count ≡ Ok tt) ↔ ((j : ℕ) → j < m.count → remains (slot_at m j) ≡ true)
  slots_remain =
      let told = slots-accepted shared_verdict (λ j s. remains s ≡ true) (λ j s. shared-accepted (j + 1) s) m m.count 0 in
      (λ e j h. told.0 e j (omega arith) (omega arith), λ all. told.1 (λ i l h. all i (omega arith)))

  slots-fit : (slots_verdict room_verdict m 0 m.count ≡ Ok tt) ↔ Fits m
  slots-fit =
      let told = slots-accepted room_verdict (λ j s. s.count ≤ 8) (λ j s. room_accepted (j + 1) s) m m.count 0 in
      (λ e. record { slot = λ j h. told.0 e j (omega arith) (omega arith) }, λ fits. told.1 (λ i l h. fits.slot i (omega arith)))

  result_passed : (result_verdict m ≡ Ok tt) ↔ (Remains m × Fits m)
  unfolding result_verdict
  result_passed = (
    λ e.
        let a = then_accepted (slots_verdict shared_verdict m 0 m.count) _ e in
        let b = refuse-accepted (ltb m.most m.least) NothingShared (slots_verdict room_verdict m 0 m.count) a.1 in
        (record { slot = slots_remain.0 a.0; span = ltb-false m.most m.least b.0 }, slots-fit.0 b.1),
    λ p.
        accepted_then (slots_verdict shared_verdict m 0 m.count) _ (slots_remain.1 p.0.slot)
        (accepted-refuse (ltb m.most m.least) NothingShared _ (le-ltb m.most m.least p.0.span) (slots-fit.1 p.1)),
  )

-- ---- all tests

pub record Passed (f g : Pattern) : Type 0 where
  pub first : Accepted f
  pub second : Accepted g
  pub count : f.count ≡ g.count
  pub left : Remains (merged_pattern f g)
  pub fits : Fits (merged_pattern f g)

pub merge_passed : (f g : Pattern) → (merge_verdict f g ≡ Ok tt) ↔ Passed f g
unfolding merge_verdict
merge_passed f g = (
  λ e.
      let a = then_accepted (pattern_verdict f) _ e in
      let b = then_accepted (pattern_verdict g) _ a.1 in
      let d = refuse-accepted (not (eqb f.count g.count)) SlotsDiffer (result_verdict (merged_pattern f g)) b.1 in
      let p = (result_passed (merged_pattern f g)).0 d.1 in
      record {
        first = (pattern-accepted f).0 a.0;
        second = (pattern-accepted g).0 b.0;
        count = eqb-true f.count g.count (not-false (eqb f.count g.count) d.0);
        left = p.0;
        fits = p.1;
      },
  λ p.
      accepted_then (pattern_verdict f) _ ((pattern-accepted f).1 p.first)
      (accepted_then (pattern_verdict g) _ ((pattern-accepted g).1 p.second)
      (accepted-refuse (not (eqb f.count g.count)) SlotsDiffer _ (ap not (eq-eqb f.count g.count p.count)) ((result_passed (merged_pattern f g)).1 (p.left, p.fits)))),
)
