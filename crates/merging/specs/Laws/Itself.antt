-- Merging an accepted pattern with itself is not refused and gives one that agrees with it: of each slot's words all are in both, and no others are.
use Rattle.std.specs.Prelude.{ℕ, ◌≤◌, ◌<◌, ◌≡◌, refl, ◌⊎◌, Bool, true, false, length, Ok}
use Rattle.std.proofs.Common.{arith, sym, ◌∙◌, ap, inl, inr}
use Rattle.std.specs.Bool.{beq}
use Rattle.std.proofs.Math.Bool.{and_self}
use mathlib.Core.List.Memᴰ
use mathlib.Core.List.{List, ◌++◌, Memᴰ}
use Rattle.basics.specs.Laws.Collections.{every-listed, select_all}
use Rattle.pattern.specs.declared.slot.Slot.{Slot}
use Rattle.pattern.specs.declared.Pattern.{Pattern}
use Rattle.pattern.specs.Patterns.{member, stated, slot_at}
use Rattle.pattern.specs.Words.{Rising}
use Rattle.pattern.specs.Agree.{AgreeSlot, Agree}
use Rattle.pattern.specs.Typed.{TypedSlot, Typed}
use Rattle.pattern.specs.Accepted.{AcceptedSlot, Accepted}
use Rattle.pattern.specs.Laws.Members.{mem-member}
use Rattle.pattern.specs.Laws.Stated.{stated-count}
use Rattle.pattern.specs.Laws.Canonical.{sorted-set, sorted_same}
use Rattle.merging.specs.Slots.{kept, words_by, merged_words, merged_slot}
use Rattle.merging.specs.Merging.{merged_pattern, merge_verdict}
use Rattle.merging.specs.Laws.Slots.{merged_at}
use Rattle.merging.specs.Laws.Taking.{merged-stated}
use Rattle.merging.specs.Laws.Passing.{Passed, merge_passed}
use Rattle.merging.specs.Laws.Accepting.{remains_iff}

-- ---- a slot with itself

-- of words that rise all are in both lists, and none is added
words-self : (a : Bool) {xs : List ℕ} → Rising xs → words_by a a xs xs ≡ xs
unfolding kept
words-self false {xs} r = select_all (λ x. beq (member x xs) true) (every-listed xs (λ x m. rw (mem-member m)))
words-self true {xs} r = sorted-set (xs ++ xs) xs (λ w. (λ m. once (Memᴰ.append_cases xs m), λ m. Memᴰ.append_left xs m)) ∙ sorted_same r
  where
    once : {w : ℕ} → Memᴰ w xs ⊎ Memᴰ w xs → Memᴰ w xs
    once (inl m) = m
    once (inr m) = m

module _ {s : Slot} (S : AcceptedSlot s) (T : TypedSlot s) (r : Rising (stated s)) where
  own : merged_words s s ≡ stated s
  own = words-self s.excluding r

  long : length (merged_words s s) ≡ s.count
  long = ap length own ∙ stated-count s T.eight S.few

  self-few : (merged_slot s s).count ≤ 8
  self-few = let h = S.few in omega (arith, long)

  self-remains : ((merged_slot s s).excluding ≡ false → 1 ≤ (merged_slot s s).count) × ((merged_slot s s).low ≤ (merged_slot s s).high)
  self-remains = (λ e. let h = S.some (sym (and_self s.excluding) ∙ e) in omega (arith, long), let h = S.ordered in omega arith)

  self-agrees : AgreeSlot (merged_slot s s) s
  self-agrees = record { low = omega arith; high = omega arith; excluding = and_self s.excluding; words = λ w. rw (merged-stated s s self-few ∙ own) (λ m. m, λ m. m) }

-- ---- a pattern with itself

module _ {f : Pattern} (F : Accepted f) (T : Typed f) where
  here : (j : ℕ) → j < f.count → slot_at (merged_pattern f f) j ≡ merged_slot (slot_at f j) (slot_at f j)
  here j h = merged_at f f F.few j h

  typed : (j : ℕ) → j < f.count → TypedSlot (slot_at f j)
  typed j h = T.slot j (omega (arith, F.few))

  self_passed : Passed f f
  self_passed = record {
    first = F;
    second = F;
    count = refl;
    left = record { slot = λ j h. rw (here j h) ((remains_iff (merged_slot (slot_at f j) (slot_at f j))).1 (self-remains (F.slot j h) (typed j h) (F.rising j h))); span = let h = F.ordered in omega arith };
    fits = record { slot = λ j h. rw (here j h) (self-few (F.slot j h) (typed j h) (F.rising j h)) };
  }

  pub self-accepted : merge_verdict f f ≡ Ok tt
  self-accepted = (merge_passed f f).1 self_passed

  pub self_agree : Agree (merged_pattern f f) f
  self_agree = record { count = refl; least = omega arith; most = omega arith; slot = λ j h. rw (here j h) (self-agrees (F.slot j h) (typed j h) (F.rising j h)) }
