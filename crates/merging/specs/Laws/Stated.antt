-- Entries past the stated number of slots or words are not looked at: patterns that state the same merge alike.
use Prim.Native.Nat.{ℕ, zero, suc, ◌+◌, ◌≤◌}
use Rattle.std.proofs.Common.{arith, ◌∙◌}
use Rattle.std.proofs.Math.Decide.{ℕ_discrete}
use Rattle.std.specs.Prelude.{◌≡◌, Ok, Err}
use Rattle.std.proofs.Math.Path.{refl, sym}
use borrow.Author.Tests.{ne_eqb}
use Rattle.pattern.specs.declared.slot.Slot.{Slot}
use Rattle.pattern.specs.declared.Pattern.{Pattern}
use Rattle.pattern.specs.declared.refusal.Refusal.TheVariants.{SlotsDiffer}
use Rattle.pattern.specs.Tests.{Verdict, and_then, pattern_verdict}
use Rattle.pattern.specs.Stated.{SameSlot, SameStated}
use Rattle.pattern.specs.Laws.Stated.{stated_same, verdict_same}
use Rattle.merging.specs.Slots.{merged_slot}
use Rattle.merging.specs.Merging.{merged_slots, merged_pattern, merge_verdict, answered, merged}

slot_same : {s s' u u' : Slot} → SameSlot s s' → SameSlot u u' → merged_slot s u ≡ merged_slot s' u'
slot_same p q = rw (stated_same p, stated_same q, p.low, q.low, p.high, q.high, p.excluding, q.excluding)

-- where the numbers of slots differ the tests stop at 17, whatever the slots
stopped : (v w : Verdict) (m n : Pattern) → answered (and_then v (and_then w (Err SlotsDiffer))) m ≡ answered (and_then v (and_then w (Err SlotsDiffer))) n
stopped (Ok x) (Ok y) m n = refl
stopped (Ok x) (Err why) m n = refl
stopped (Err why) w m n = refl

module _ {f f' g g' : Pattern} (p : SameStated f f') (q : SameStated g g') where
  -- of as many slots as both state
  slots_same : (n j : ℕ) → j + n ≤ f.count → j + n ≤ g.count → merged_slots f g j n ≡ merged_slots f' g' j n
  unfolding merged_slots
  slots_same zero j h k = refl
  slots_same (suc n) j h k = rw (slot_same (p.slot j (omega arith)) (q.slot j (omega arith)), slots_same n (j + 1) (omega arith) (omega arith))

  pattern_same : f.count ≤ g.count → merged_pattern f g ≡ merged_pattern f' g'
  pattern_same h = rw (slots_same f.count 0 (omega arith) (omega arith), p.count, p.least, q.least, p.most, q.most)

  pub answer_same : merged f g ≡ merged f' g'
  unfolding merged merge_verdict
  answer_same =
      elim (ℕ_discrete f.count g.count) [
        | yes e ↦ rw (verdict_same p, verdict_same q, pattern_same (omega arith), p.count, q.count)
        | no n ↦
            rw (ne_eqb f.count g.count n, ne_eqb f'.count g'.count (λ e. n (p.count ∙ e ∙ sym q.count)), verdict_same p, verdict_same q)
            (stopped (pattern_verdict f') (pattern_verdict g') (merged_pattern f g) (merged_pattern f' g'))
      ]
