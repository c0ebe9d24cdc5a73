-- In every text a row is an occurrence of the merged pattern exactly when it is one of both: a slot takes what both take, and a number lies
-- between the larger lower and the smaller upper bound exactly when it lies between both pairs.
use Rattle.std.specs.Prelude.{ℕ, ◌+◌, ◌-◌, ◌≤◌, ◌<◌, min, max, ◌≡◌, ◌↔◌, true, ◌&&◌, List}
use Rattle.std.proofs.Common.{arith, ◌∙◌, ap}
use Rattle.std.proofs.Math.Bool.{and-eq-true_iff}
use Rattle.pattern.specs.declared.slot.Slot.{Slot}
use Rattle.pattern.specs.declared.Pattern.{Pattern}
use Rattle.pattern.specs.Patterns.{takes, slot_at}
use Rattle.matching.specs.Occurrence.{at, word_at, Occurs}
use Rattle.merging.specs.Slots.{merged_slot}
use Rattle.merging.specs.Merging.{merged_pattern}
use Rattle.merging.specs.Laws.Slots.{merged_at}
use Rattle.merging.specs.Laws.Taking.{merged_takes}
use Rattle.merging.specs.Laws.Passing.{Passed}
use Rattle.merging.specs.Laws.Accepting.{second_slot, slot_fits}

module _ {f g : Pattern} (P : Passed f g) where
  -- slot j of the merged pattern
  here : (j : ℕ) → j < f.count → slot_at (merged_pattern f g) j ≡ merged_slot (slot_at f j) (slot_at g j)
  here j h = merged_at f g P.first.few j h

  low_at : (j : ℕ) → j < f.count → (slot_at (merged_pattern f g) j).low ≡ max (slot_at f j).low (slot_at g j).low
  low_at j h = ap (λ (s : Slot). s.low) (here j h)

  high_at : (j : ℕ) → j < f.count → (slot_at (merged_pattern f g) j).high ≡ min (slot_at f j).high (slot_at g j).high
  high_at j h = ap (λ (s : Slot). s.high) (here j h)

  -- it takes what both take
  takes_both : (j : ℕ) → j < f.count → (w : ℕ) → takes (slot_at (merged_pattern f g) j) w ≡ (takes (slot_at f j) w && takes (slot_at g j) w)
  takes_both j h w =
      ap (λ (s : Slot). takes s w) (here j h)
      ∙ merged_takes (slot_at f j) (slot_at g j) (P.first.slot j h) (second_slot P j h) (slot_fits P j h) w

  taken_by : (j : ℕ) → j < f.count → (w : ℕ) → (takes (slot_at (merged_pattern f g) j) w ≡ true) ↔ ((takes (slot_at f j) w ≡ true) × (takes (slot_at g j) w ≡ true))
  taken_by j h w = rw (takes_both j h w) (and-eq-true_iff (takes (slot_at f j) w) (takes (slot_at g j) w))

  module _ (t r : List ℕ) where
    of_both : Occurs (merged_pattern f g) t r → Occurs f t r × Occurs g t r
    of_both O = (
      record {
        size = O.size;
        word = λ j h. record { inside = (O.word j h).inside; fit = ((taken_by j h (word_at t (at r j))).0 (O.word j h).fit).0 };
        gap = λ j h. let p = O.gap j h in (omega (arith, p.0, low_at (j + 1) h), omega (arith, p.1, high_at (j + 1) h));
        span = let p = O.span in (omega (arith, p.0), omega (arith, p.1));
        sentence = O.sentence;
      },
      record {
        size = O.size ∙ P.count;
        word = λ j h.
            let k : j < f.count = omega (arith, P.count) in
            record { inside = (O.word j k).inside; fit = ((taken_by j k (word_at t (at r j))).0 (O.word j k).fit).1 };
        gap = λ j h.
            let k : j + 1 < f.count = omega (arith, P.count) in
            let p = O.gap j k in (omega (arith, p.0, low_at (j + 1) k), omega (arith, p.1, high_at (j + 1) k));
        span = rw (← P.count) (let p = O.span in (omega (arith, p.0), omega (arith, p.1)));
        sentence = rw (← P.count) O.sentence;
      },
    )

    of_merged_lem : Occurs f t r → Occurs g t r → Occurs (merged_pattern f g) t r
    of_merged_lem O Q = record {
      size = O.size;
      word = λ j h. record { inside = (O.word j h).inside; fit = (taken_by j h (word_at t (at r j))).1 ((O.word j h).fit, (Q.word j (omega (arith, P.count))).fit) };
      gap = λ j h.
          let p = O.gap j h in
          let q = Q.gap j (omega (arith, P.count)) in
          (omega (arith, p.0, q.0, low_at (j + 1) h), omega (arith, p.1, q.1, high_at (j + 1) h));
      span =
          let p = O.span in
          let q : (at r 0 + g.least ≤ at r (f.count - 1) + 1) × (at r (f.count - 1) + 1 ≤ at r 0 + g.most) = rw P.count Q.span in
          (omega (arith, p.0, q.0), omega (arith, p.1, q.1));
      sentence = O.sentence;
    }

    -- the theorem
    pub occurs_both : Occurs (merged_pattern f g) t r ↔ (Occurs f t r × Occurs g t r)
    occurs_both = (of_both, λ p. of_merged_lem p.0 p.1)
