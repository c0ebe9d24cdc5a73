-- The tests accept exactly the patterns and texts within the limits.
use Rattle.std.specs.Prelude.{ℕ, zero, suc, ◌+◌, ◌≤◌, ◌<◌, ◌≡◌, refl, ◌↔◌, Bool, true, false, not, ltb, eqb, Ok, Err}
use Rattle.std.proofs.Common.{arith, ap, true≢false, ltb-false, le-ltb, ne_eqb, eq-eqb}
use Rattle.std.proofs.Math.Decide.{ℕ_discrete}
use Rattle.std.proofs.lemmas.Bool.{eqb-false, not-false}
use Rattle.pattern.specs.declared.slot.Slot.{Slot}
use Rattle.pattern.specs.declared.Pattern.{Pattern}
use Rattle.pattern.specs.declared.refusal.Refusal.{Refusal}
use Rattle.pattern.specs.declared.refusal.Refusal.TheVariants.{SlotCount, WordCount, ZeroWord, Gap, Span, TextLength, WordOrder}
use Rattle.pattern.specs.Patterns.{stated, lists, taken, takes, slot_at}
use Rattle.pattern.specs.Words.{Rising, rises}
use Rattle.pattern.specs.Tests.{Verdict, refuse, and_then, widest_gap, fewest_words, slot_verdict, order_verdict, slots_verdict, span_verdict, limits_verdict, pattern_verdict, input_verdict}
use Rattle.pattern.specs.Accepted.{AcceptedSlot, Accepted, AcceptedInput}
use Rattle.pattern.specs.Laws.Members.{member_false}
use Rattle.pattern.specs.Laws.Words.{rises_iff}

pub refused_fine : {why : Refusal} → ◌≡◌ {A = Verdict} (Err why) (Ok tt) → ⊥
refused_fine e = let z : ◌≡◌ {A = ℕ} 0 1 = cc in omega arith

-- a test followed by others accepts where it does not apply and they accept
pub refuse-accepted : (applies : Bool) (why : Refusal) (later : Verdict) → refuse applies why later ≡ Ok tt → (applies ≡ false) × (later ≡ Ok tt)
refuse-accepted true why later e = absurd (refused_fine e)
refuse-accepted false why later e = (refl, e)

pub accepted-refuse : (applies : Bool) (why : Refusal) (later : Verdict) → applies ≡ false → later ≡ Ok tt → refuse applies why later ≡ Ok tt
accepted-refuse true why later e f = absurd (true≢false e)
accepted-refuse false why later e f = f

pub then_accepted : (v later : Verdict) → and_then v later ≡ Ok tt → (v ≡ Ok tt) × (later ≡ Ok tt)
then_accepted (Ok tt) later e = (refl, e)
then_accepted (Err why) later e = absurd (refused_fine e)

pub accepted_then : (v later : Verdict) → v ≡ Ok tt → later ≡ Ok tt → and_then v later ≡ Ok tt
accepted_then (Ok tt) later e f = f
accepted_then (Err why) later e f = absurd (refused_fine e)

-- ---- a slot

taken_zero : (excluding listed : Bool) → listed ≡ false → taken excluding 0 listed ≡ false
taken_zero true listed e = rw e
taken_zero false listed e = e

-- no accepted slot takes 0, excluding or not
pub takes_zero : {s : Slot} → AcceptedSlot s → takes s 0 ≡ false
unfolding takes
takes_zero {s} a = taken_zero s.excluding (lists s 0) ((member_false 0 (stated s)).1 a.nonzero)

-- as many words as its kind asks for
words_asked : (excluding : Bool) (n : ℕ) → (ltb n (fewest_words excluding) ≡ false) ↔ (excluding ≡ false → 1 ≤ n)
words_asked true n = (λ e f. absurd (true≢false f), λ h. le-ltb n 0 (omega arith))
words_asked false n = (λ e f. ltb-false n 1 e, λ h. le-ltb n 1 (h refl))

-- 0 before the first slot, 63 before a later one
record Widest (j w : ℕ) : Type 0 where
  first : j ≡ 0 → w ≡ 0
  later : 0 < j → w ≡ 63

widest_at : (j : ℕ) → Widest j (widest_gap (j + 1))
widest_at j = record {
  first = λ z. simp (eq-eqb (j + 1) 1 (omega arith));
  later = λ h. simp (ne_eqb (j + 1) 1 (λ e. omega arith));
}

narrow-gap : (j w high : ℕ) → Widest j w → high ≤ w → (high ≤ 63) × (j ≡ 0 → high ≡ 0)
narrow-gap j w high W h = elim (ℕ_discrete j 0) [
  | yes z ↦ (omega (arith, W.first z), λ z'. omega (arith, W.first z))
  | no n ↦ (omega (arith, W.later (omega arith)), λ z. absurd (n z))
]

gap-narrow : (j w high : ℕ) → Widest j w → high ≤ 63 → (j ≡ 0 → high ≡ 0) → high ≤ w
gap-narrow j w high W h first = elim (ℕ_discrete j 0) [ yes z ↦ omega (arith, first z) | no n ↦ omega (arith, W.later (omega arith)) ]

positive : (n : ℕ) → (n ≡ 0 → ⊥) → 1 ≤ n
positive zero h = absurd (h refl)
positive (suc n) h = omega arith

pub slot-accepted : (j : ℕ) (s : Slot) → (slot_verdict (j + 1) s ≡ Ok tt) ↔ (AcceptedSlot s × (j ≡ 0 → s.high ≡ 0))
unfolding slot_verdict
slot-accepted j s = (
  λ e.
      let a = refuse-accepted (ltb s.count (fewest_words s.excluding)) (WordCount (j + 1)) _ e in
      let b = refuse-accepted (ltb 8 s.count) (WordCount (j + 1)) _ a.1 in
      let d = refuse-accepted (lists s 0) (ZeroWord (j + 1)) _ b.1 in
      let g = refuse-accepted (ltb s.high s.low) (Gap (j + 1)) _ d.1 in
      let h = refuse-accepted (ltb (widest_gap (j + 1)) s.high) (Gap (j + 1)) _ g.1 in
      let k = narrow-gap j (widest_gap (j + 1)) s.high (widest_at j) (ltb-false (widest_gap (j + 1)) s.high h.0) in (
        record {
          some = (words_asked s.excluding s.count).0 a.0;
          few = ltb-false 8 s.count b.0;
          nonzero = (member_false 0 (stated s)).0 d.0;
          ordered = ltb-false s.high s.low g.0;
          narrow = k.0;
        },
        k.1,
      ),
  λ p.
      let a = p.0 in
      accepted-refuse (ltb s.count (fewest_words s.excluding)) (WordCount (j + 1)) _ ((words_asked s.excluding s.count).1 a.some)
      (accepted-refuse (ltb 8 s.count) (WordCount (j + 1)) _ (le-ltb 8 s.count a.few)
      (accepted-refuse (lists s 0) (ZeroWord (j + 1)) _ ((member_false 0 (stated s)).1 a.nonzero)
      (accepted-refuse (ltb s.high s.low) (Gap (j + 1)) _ (le-ltb s.high s.low a.ordered)
      (accepted-refuse (ltb (widest_gap (j + 1)) s.high) (Gap (j + 1)) _ (le-ltb (widest_gap (j + 1)) s.high (gap-narrow j (widest_gap (j + 1)) s.high (widest_at j) a.narrow p.1)) refl)))),
)

-- 16 accepts where the words rise
pub order_accepted : (j : ℕ) (s : Slot) → (order_verdict (j + 1) s ≡ Ok tt) ↔ Rising (stated s)
order_accepted j s =
    let told = rises_iff (stated s) in (
      λ e. told.0 (not-false (rises (stated s)) (refuse-accepted (not (rises (stated s))) (WordOrder (j + 1)) (Ok tt) e).0),
      λ r. accepted-refuse (not (rises (stated s))) (WordOrder (j + 1)) (Ok tt) (ap not (told.1 r)) refl,
    )

-- ---- slot by slot

-- where a test of one slot accepts exactly if P holds, the tests of some slots accept exactly if P holds of each
pub slots-accepted : (test : ℕ → Slot → Verdict) (P : ℕ → Slot → Type 0) → ((j : ℕ) (s : Slot) → (test (j + 1) s ≡ Ok tt) ↔ P j s) → (f : Pattern) (n j : ℕ)
    → (slots_verdict test f j n ≡ Ok tt) ↔ ((i : ℕ) → j ≤ i → i < j + n → P i (slot_at f i))
unfolding slots_verdict
slots-accepted test P told f zero j = (λ e i l h. absurd (omega arith), λ h. refl)
slots-accepted test P told f (suc n) j = (
  λ e.
      let b = then_accepted (test (j + 1) (slot_at f j)) (slots_verdict test f (j + 1) n) e in
      let here = (told j (slot_at f j)).0 b.0 in
      let later = (slots-accepted test P told f n (j + 1)).0 b.1 in
      λ i l h. elim (ℕ_discrete i j) [ yes q ↦ rw q here | no q ↦ later i (omega arith) (omega arith) ],
  λ h.
      accepted_then (test (j + 1) (slot_at f j)) (slots_verdict test f (j + 1) n)
      ((told j (slot_at f j)).1 (h j (omega arith) (omega arith)))
      ((slots-accepted test P told f n (j + 1)).1 (λ i l k. h i (omega arith) (omega arith))),
)

-- what the tests 2, 3 and 4 accept
abbrev SlotWithin : ℕ → Slot → Type 0
SlotWithin j s = AcceptedSlot s × (j ≡ 0 → s.high ≡ 0)

-- what 16 accepts
abbrev pub WordsRise : ℕ → Slot → Type 0
WordsRise j s = Rising (stated s)

-- ---- a pattern, and a text with it

span-accepted : (least most : ℕ) → (span_verdict least most ≡ Ok tt) ↔ ((1 ≤ least) × ((least ≤ most) × (most ≤ 20000)))
unfolding span_verdict
span-accepted least most = (
  λ e.
      let a = refuse-accepted (eqb least 0) Span _ e in
      let b = refuse-accepted (ltb most least) Span _ a.1 in
      let d = refuse-accepted (ltb 20000 most) Span _ b.1 in
      (positive least (eqb-false least 0 a.0), (ltb-false most least b.0, ltb-false 20000 most d.0)),
  λ p.
      accepted-refuse (eqb least 0) Span _ (ne_eqb least 0 (λ e. omega arith))
      (accepted-refuse (ltb most least) Span _ (le-ltb most least p.1.0)
      (accepted-refuse (ltb 20000 most) Span _ (le-ltb 20000 most p.1.1) refl)),
)

-- what the tests 1 to 5 accept: all of `Accepted` but the order of words
record Within (f : Pattern) : Type 0 where
  some : 1 ≤ f.count
  few : f.count ≤ 16
  slot : (j : ℕ) → j < f.count → SlotWithin j (slot_at f j)
  span : (1 ≤ f.least) × ((f.least ≤ f.most) × (f.most ≤ 20000))

limits-accepted : (f : Pattern) → (limits_verdict f ≡ Ok tt) ↔ Within f
unfolding limits_verdict
limits-accepted f = (
  λ e.
      let a = refuse-accepted (eqb f.count 0) SlotCount _ e in
      let b = refuse-accepted (ltb 16 f.count) SlotCount _ a.1 in
      let d = then_accepted (slots_verdict slot_verdict f 0 f.count) (span_verdict f.least f.most) b.1 in
      let slots = (slots-accepted slot_verdict SlotWithin slot-accepted f f.count 0).0 d.0 in
      record {
        some = positive f.count (eqb-false f.count 0 a.0);
        few = ltb-false 16 f.count b.0;
        slot = λ j h. slots j (omega arith) (omega arith);
        span = (span-accepted f.least f.most).0 d.1;
      },
  λ a.
      accepted-refuse (eqb f.count 0) SlotCount _ (ne_eqb f.count 0 (λ e. omega (arith, a.some)))
      (accepted-refuse (ltb 16 f.count) SlotCount _ (le-ltb 16 f.count a.few)
      (accepted_then (slots_verdict slot_verdict f 0 f.count) (span_verdict f.least f.most)
      ((slots-accepted slot_verdict SlotWithin slot-accepted f f.count 0).1 (λ i l h. a.slot i (omega arith)))
      ((span-accepted f.least f.most).1 a.span))),
)

-- at most sixteen slots of at most eight words, as the tests 1 to 5 leave them
pub limits-slots : (f : Pattern) → limits_verdict f ≡ Ok tt → f.count ≤ 16
limits-slots f e = ((limits-accepted f).0 e).few

pub limits-few : (f : Pattern) → limits_verdict f ≡ Ok tt → (j : ℕ) → j < f.count → (slot_at f j).count ≤ 8
limits-few f e j h = (((limits-accepted f).0 e).slot j h).0.few

pub pattern-accepted : (f : Pattern) → (pattern_verdict f ≡ Ok tt) ↔ Accepted f
unfolding pattern_verdict
pattern-accepted f = (
  λ e.
      let d = then_accepted (limits_verdict f) (slots_verdict order_verdict f 0 f.count) e in
      let limits = (limits-accepted f).0 d.0 in
      let order = (slots-accepted order_verdict WordsRise order_accepted f f.count 0).0 d.1 in
      record {
        some = limits.some;
        few = limits.few;
        slot = λ j h. (limits.slot j h).0;
        first = (limits.slot 0 (omega (arith, limits.some))).1 refl;
        least = limits.span.0;
        ordered = limits.span.1.0;
        most = limits.span.1.1;
        rising = λ j h. order j (omega arith) (omega arith);
      },
  λ a.
      accepted_then (limits_verdict f) (slots_verdict order_verdict f 0 f.count)
      ((limits-accepted f).1 (record { some = a.some; few = a.few; slot = λ j h. (a.slot j h, λ z. rw z a.first); span = (a.least, (a.ordered, a.most)) }))
      ((slots-accepted order_verdict WordsRise order_accepted f f.count 0).1 (λ i l h. a.rising i (omega arith))),
)

pub input-accepted : (f : Pattern) (n : ℕ) → (input_verdict f n ≡ Ok tt) ↔ AcceptedInput f n
unfolding input_verdict
input-accepted f n = (
  λ e.
      let a = then_accepted (pattern_verdict f) (refuse (ltb 20000 n) TextLength (Ok tt)) e in
      record { pattern = (pattern-accepted f).0 a.0; short = ltb-false 20000 n (refuse-accepted (ltb 20000 n) TextLength (Ok tt) a.1).0 },
  λ a.
      accepted_then (pattern_verdict f) (refuse (ltb 20000 n) TextLength (Ok tt)) ((pattern-accepted f).1 a.pattern)
      (accepted-refuse (ltb 20000 n) TextLength (Ok tt) (le-ltb 20000 n a.short) refl),
)
