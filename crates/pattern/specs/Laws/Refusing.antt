-- By which numbers the tests refuse.
use Prim.Native.Nat.{ℕ, zero, suc, ◌+◌, ◌≤◌}
use Rattle.std.proofs.Common.{arith, sym}
use Rattle.std.specs.Prelude.{◌≡◌, Bool, true, false, not, ltb, eqb, Ok, Err}
use Rattle.pattern.specs.declared.slot.Slot.{Slot}
use Rattle.pattern.specs.declared.Pattern.{Pattern}
use Rattle.pattern.specs.declared.refusal.Refusal.{Refusal}
use Rattle.pattern.specs.declared.refusal.Refusal.TheVariants.{SlotCount, WordCount, ZeroWord, Gap, Span, TextLength, WordOrder}
use Rattle.pattern.specs.Refusals.{number_of}
use Rattle.pattern.specs.Patterns.{stated, lists, slot_at}
use Rattle.pattern.specs.Words.{rises}
use Rattle.pattern.specs.Tests.{Verdict, refuse, and_then, widest_gap, fewest_words, slot_verdict, order_verdict, slots_verdict, span_verdict, limits_verdict, pattern_verdict, input_verdict}
use Rattle.pattern.specs.Laws.Accepting.{refused_fine}

refused_is : {a b : Refusal} → ◌≡◌ {A = Verdict} (Err a) (Err b) → a ≡ b
refused_is e = cc

module _ (P : ℕ → Type 0) where
  -- a verdict that refuses by a number with P, if at all
  abbrev pub Only : Verdict → Type 0
  Only v = (why : Refusal) → v ≡ Err why → P (number_of why)

  pub only_none : Only (Ok tt)
  only_none why e = absurd (refused_fine (sym e))

  pub only_refuse : (applies : Bool) (here : Refusal) (later : Verdict) → P (number_of here) → Only later → Only (refuse applies here later)
  only_refuse true here later h l why e = rw (← (refused_is e)) h
  only_refuse false here later h l why e = l why e

  pub only_then : (v later : Verdict) → Only v → Only later → Only (and_then v later)
  only_then (Ok tt) later h l = l
  only_then (Err why) later h l = h

  only_slots : (test : ℕ → Slot → Verdict) → ((k : ℕ) (s : Slot) → Only (test k s)) → (f : Pattern) (n j : ℕ) → Only (slots_verdict test f j n)
  unfolding slots_verdict
  only_slots test h f zero j = only_none
  only_slots test h f (suc n) j = only_then (test (j + 1) (slot_at f j)) (slots_verdict test f (j + 1) n) (h (j + 1) (slot_at f j)) (only_slots test h f n (j + 1))

  -- ---- 1 to 5
  module _ (low : (n : ℕ) → n ≤ 5 → P n) where
    only_slot : (k : ℕ) (s : Slot) → Only (slot_verdict k s)
    unfolding slot_verdict
    only_slot k s =
        only_refuse (ltb s.count (fewest_words s.excluding)) (WordCount k) _ (low 2 (omega arith))
        (only_refuse (ltb 8 s.count) (WordCount k) _ (low 2 (omega arith))
        (only_refuse (lists s 0) (ZeroWord k) _ (low 3 (omega arith))
        (only_refuse (ltb s.high s.low) (Gap k) _ (low 4 (omega arith))
        (only_refuse (ltb (widest_gap k) s.high) (Gap k) (Ok tt) (low 4 (omega arith)) only_none))))

    only_span : (least most : ℕ) → Only (span_verdict least most)
    unfolding span_verdict
    only_span least most =
        only_refuse (eqb least 0) Span _ (low 5 (omega arith))
        (only_refuse (ltb most least) Span _ (low 5 (omega arith))
        (only_refuse (ltb 20000 most) Span (Ok tt) (low 5 (omega arith)) only_none))

    only_limits : (f : Pattern) → Only (limits_verdict f)
    unfolding limits_verdict
    only_limits f =
        only_refuse (eqb f.count 0) SlotCount _ (low 1 (omega arith))
        (only_refuse (ltb 16 f.count) SlotCount _ (low 1 (omega arith))
        (only_then (slots_verdict slot_verdict f 0 f.count) (span_verdict f.least f.most) (only_slots slot_verdict only_slot f f.count 0) (only_span f.least f.most)))

    -- ---- 1 to 5, 16, 6
    pub only_input : P 16 → P 6 → (f : Pattern) (n : ℕ) → Only (input_verdict f n)
    unfolding input_verdict pattern_verdict
    only_input sixteen six f n =
        let order : (k : ℕ) (s : Slot) → Only (order_verdict k s) = λ k s. only_refuse (not (rises (stated s))) (WordOrder k) (Ok tt) sixteen only_none in
        only_then (pattern_verdict f) (refuse (ltb 20000 n) TextLength (Ok tt))
        (only_then (limits_verdict f) (slots_verdict order_verdict f 0 f.count) (only_limits f) (only_slots order_verdict order f f.count 0))
        (only_refuse (ltb 20000 n) TextLength (Ok tt) six only_none)

-- the limits refuse by 1 to 5 alone
pub limits_number : (f : Pattern) (why : Refusal) → limits_verdict f ≡ Err why → number_of why ≤ 5
limits_number f = only_limits (λ n. n ≤ 5) (λ n h. h) f
