-- Two accepted patterns merge alike in either order: the same refusal, or the same pattern. Of words that rise the same set is the same list, so
-- that already the merged slots are the same.
use Prim.Native.Nat.{ℕ, zero, suc, ◌+◌, ◌≤◌}
use Rattle.std.proofs.Common.{arith, sym, ◌∙◌, ap, eq-eqb}
use Rattle.std.proofs.Math.Nat.{max_comm, min_comm}
use Rattle.std.proofs.Math.Decide.{ℕ_discrete}
use Rattle.std.specs.Prelude.{◌≡◌, Bool, true, false}
use Rattle.std.proofs.Math.Path.{refl}
use Rattle.std.proofs.Math.Bool.{and_comm}
use Rattle.pattern.specs.declared.slot.Slot.{Slot}
use Rattle.pattern.specs.declared.Pattern.{Pattern}
use Rattle.pattern.specs.Patterns.{member, stated, slot_at}
use Rattle.pattern.specs.Words.{Rising}
use Rattle.pattern.specs.Accepted.{Accepted}
use Rattle.pattern.specs.Laws.Words.{rising_once}
use Rattle.pattern.specs.Laws.Accepting.{pattern-accepted}
use Rattle.merging.specs.Slots.{merged_words, merged_slot}
use Rattle.merging.specs.Merging.{merged_slots, merged_pattern, result_verdict, merge_verdict}
use Rattle.merging.specs.Laws.Words.{listed_by, member_alike, member-merged, merged-rising}
use Rattle.merging.specs.Laws.Judging.{slots_differ}

-- ---- two slots in either order

listed_comm : (a b p q : Bool) → listed_by a b p q ≡ listed_by b a q p
unfolding listed_by
listed_comm false false true true = refl
listed_comm false false true false = refl
listed_comm false false false true = refl
listed_comm false false false false = refl
listed_comm false true p q = refl
listed_comm true false p q = refl
listed_comm true true true true = refl
listed_comm true true true false = refl
listed_comm true true false true = refl
listed_comm true true false false = refl

module _ (s u : Slot) (r : Rising (stated s)) (q : Rising (stated u)) where
  words_comm : merged_words s u ≡ merged_words u s
  words_comm =
      rising_once (merged-rising s.excluding u.excluding r q) (merged-rising u.excluding s.excluding q r)
      (λ w. member_alike w (merged_words s u) (merged_words u s) (
      member-merged s.excluding u.excluding w (stated s) (stated u)
      ∙ listed_comm s.excluding u.excluding (member w (stated s)) (member w (stated u))
      ∙ sym (member-merged u.excluding s.excluding w (stated u) (stated s))
      ))

  slot_comm : merged_slot s u ≡ merged_slot u s
  slot_comm = rw (max_comm s.low u.low, min_comm s.high u.high, and_comm s.excluding u.excluding, words_comm)

-- ---- two patterns in either order

module _ {f g : Pattern} (F : Accepted f) (G : Accepted g) (e : f.count ≡ g.count) where
  slots_comm : (n j : ℕ) → j + n ≤ f.count → merged_slots f g j n ≡ merged_slots g f j n
  unfolding merged_slots
  slots_comm zero j h = refl
  slots_comm (suc n) j h = rw (slot_comm (slot_at f j) (slot_at g j) (F.rising j (omega arith)) (G.rising j (omega arith)), slots_comm n (j + 1) (omega arith))

  pub pattern_comm : merged_pattern f g ≡ merged_pattern g f
  pattern_comm = rw (slots_comm f.count 0 (omega arith), e, max_comm f.least g.least, min_comm f.most g.most)

-- the same verdict
pub verdict_comm : {f g : Pattern} → Accepted f → Accepted g → merge_verdict f g ≡ merge_verdict g f
unfolding merge_verdict
verdict_comm {f} {g} F G =
    elim (ℕ_discrete f.count g.count) [
      | yes e ↦ rw ((pattern-accepted f).1 F, (pattern-accepted g).1 G, eq-eqb f.count g.count e, eq-eqb g.count f.count (sym e)) (ap result_verdict (pattern_comm F G e))
      | no n ↦ slots_differ F G n ∙ sym (slots_differ G F (λ e. n (sym e)))
    ]
