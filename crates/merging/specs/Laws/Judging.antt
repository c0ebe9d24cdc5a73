-- Two accepted patterns with equally many slots are merged, or refused with 18 or 19, exactly as `Judged` says; with unequally many they are
-- refused with 17.
use Rattle.std.specs.Prelude.{ℕ, zero, suc, ◌+◌, ◌≤◌, ◌<◌, ◌≡◌, refl, ◌↔◌, ◌⊎◌, Bool, true, false, ltb, Ok, Err}
use Rattle.std.proofs.Common.{arith, sym, subst, inl, inr}
use Rattle.std.proofs.Math.Decide.{ℕ_discrete}
use Rattle.std.proofs.Math.Bool.{not}
use borrow.Author.Tests.{ltb-true, ltb-false, eq-eqb, ne_eqb, not-true, not-false}
use Rattle.pattern.specs.declared.slot.Slot.{Slot}
use Rattle.pattern.specs.declared.Pattern.{Pattern}
use Rattle.pattern.specs.declared.refusal.Refusal.{Refusal}
use Rattle.pattern.specs.declared.refusal.Refusal.TheVariants.{SlotsDiffer, NothingShared, TooManyWords}
use Rattle.pattern.specs.Patterns.{slot_at}
use Rattle.pattern.specs.Tests.{Verdict, refuse, and_then, slots_verdict}
use Rattle.pattern.specs.Typed.{Typed}
use Rattle.pattern.specs.Accepted.{AcceptedSlot, Accepted}
use Rattle.pattern.specs.Laws.Accepting.{pattern-accepted}
use Rattle.merging.specs.Slots.{merged_slot}
use Rattle.merging.specs.Merging.{merged_pattern, remains, room_verdict, result_verdict, merge_verdict}
use Rattle.merging.specs.Sharing.{SharedWord, SharedGap, Share, Unshared, no_word, no_gap, no_span, RoomSlot, Judged, unshared, crowded, passed}
use Rattle.merging.specs.Laws.Slots.{merged_at}
use Rattle.merging.specs.Laws.Sharing.{bounds_shared, slot-shared, slot-unshared, slot_room}

-- ---- a test of slots that refuses with one number

-- what it comes to on the n slots from slot j on: it finds none of them bad, or some
data Tested (bad : Slot → Bool) (why : Refusal) (m : Pattern) (j n : ℕ) : Verdict → Type 0 where
  none : ((i : ℕ) → j ≤ i → i < j + n → bad (slot_at m i) ≡ false) → Tested bad why m j n (Ok tt)
  some : (i : ℕ) → j ≤ i → i < j + n → bad (slot_at m i) ≡ true → Tested bad why m j n (Err why)

tested : (bad : Slot → Bool) (why : Refusal) (m : Pattern) (n j : ℕ) → Tested bad why m j n (slots_verdict (λ k s. refuse (bad s) why (Ok tt)) m j n)
unfolding slots_verdict
tested bad why m zero j = none (λ i l h. absurd (omega arith))
tested bad why m (suc n) j = go (bad (slot_at m j)) refl (tested bad why m n (j + 1))
  where
    go : {v : Verdict} (b : Bool) → bad (slot_at m j) ≡ b → Tested bad why m (j + 1) n v → Tested bad why m j (suc n) (and_then (refuse b why (Ok tt)) v)
    go true e later = some j (omega arith) (omega arith) e
    go false e (none all) = none (λ i l h. elim (ℕ_discrete i j) [ yes q ↦ rw q e | no q ↦ all i (omega arith) (omega arith) ])
    go false e (some i l h b) = some i (omega arith) (omega arith) b

-- ---- the merged pattern

module _ {f g : Pattern} (F : Accepted f) (G : Accepted g) (T : Typed f) (W : Typed g) (e : f.count ≡ g.count) where
  abbrev m : Pattern
  m = merged_pattern f g

  module _ (j : ℕ) (h : j < f.count) where
    abbrev s : Slot
    s = slot_at f j

    abbrev u : Slot
    u = slot_at g j

    second : AcceptedSlot u
    second = G.slot j (omega arith)

    made : slot_at m j ≡ merged_slot s u
    made = merged_at f g F.few j h

    shared : (remains (merged_slot s u) ≡ true) ↔ (SharedWord s u × SharedGap s u)
    shared = slot-shared (F.slot j h) second (T.slot j (omega (arith, F.few))) (W.slot j (omega (arith, F.few)))

    missing : not (remains (slot_at m j)) ≡ true → Unshared f g
    missing b = which (slot-unshared (F.slot j h) second (T.slot j (omega (arith, F.few))) (W.slot j (omega (arith, F.few))) (subst (λ (x : Slot). remains x ≡ false) made (not-true (remains (slot_at m j)) b)))
      where
        which : (SharedWord s u → ⊥) ⊎ (SharedGap s u → ⊥) → Unshared f g
        which (inl n) = no_word j h n
        which (inr n) = no_gap j h n

    there : not (remains (slot_at m j)) ≡ false → SharedWord s u × SharedGap s u
    there b = shared.0 (subst (λ (x : Slot). remains x ≡ true) made (not-false (remains (slot_at m j)) b))

    fits : ((slot_at m j).count ≤ 8) ↔ RoomSlot s u
    fits =
        let room = slot_room (F.slot j h) second in
        (λ k. room.0 (subst (λ (x : Slot). x.count ≤ 8) made k), λ r. subst (λ (x : Slot). x.count ≤ 8) (sym made) (room.1 r))

  -- ---- its verdict

  by_room : {v : Verdict} → Tested (λ x. ltb 8 x.count) TooManyWords m 0 f.count v → Share f g → Judged f g v
  by_room (none all) all-shared = passed all-shared (λ j h. (fits j h).0 (ltb-false 8 (slot_at m j).count (all j (omega arith) (omega arith))))
  by_room (some j l h b) all-shared = crowded all-shared j (omega arith) (λ r. let k = (fits j (omega arith)).1 r in omega (arith, ltb-true 8 (slot_at m j).count b))

  abbrev roomy : Verdict
  roomy = slots_verdict room_verdict m 0 f.count

  by_span : (b : Bool) → ltb m.most m.least ≡ b → ((j : ℕ) → j < f.count → not (remains (slot_at m j)) ≡ false) → Judged f g (refuse b NothingShared roomy)
  by_span true q all = unshared (no_span (λ n. let h = (bounds_shared f.least f.most g.least g.most).1 n in omega (arith, ltb-true m.most m.least q)))
  by_span false q all =
      by_room (tested (λ x. ltb 8 x.count) TooManyWords m f.count 0)
      (record {
        word = λ j h. (there j h (all j h)).0;
        gap = λ j h. (there j h (all j h)).1;
        span = (bounds_shared f.least f.most g.least g.most).0 (ltb-false m.most m.least q);
      })

  by_slots : {v : Verdict} → Tested (λ x. not (remains x)) NothingShared m 0 f.count v → Judged f g (and_then v (refuse (ltb m.most m.least) NothingShared roomy))
  by_slots (none all) = by_span (ltb m.most m.least) refl (λ j h. all j (omega arith) (omega arith))
  by_slots (some j l h b) = unshared (missing j (omega arith) b)

  -- 18, 19 or neither
  pub merge_judged : Judged f g (merge_verdict f g)
  unfolding merge_verdict result_verdict
  merge_judged = rw ((pattern-accepted f).1 F, (pattern-accepted g).1 G, eq-eqb f.count g.count e) (by_slots (tested (λ x. not (remains x)) NothingShared m f.count 0))

-- and 17 where the numbers of slots differ
pub slots_differ : {f g : Pattern} → Accepted f → Accepted g → (f.count ≡ g.count → ⊥) → merge_verdict f g ≡ Err SlotsDiffer
unfolding merge_verdict
slots_differ {f} {g} F G n = rw ((pattern-accepted f).1 F, (pattern-accepted g).1 G, ne_eqb f.count g.count n)
