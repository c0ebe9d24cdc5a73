-- The merged slot takes exactly the words that both slots take.
use Prim.Native.Nat.{ℕ, ◌≤◌, min, max}
use Rattle.std.specs.Prelude.{◌≡◌, refl, true, false, not, ◌&&◌, ◌||◌, length}
use Rattle.std.proofs.Common.{sym, ◌∙◌, true≢false, eqb-true}
use Rattle.std.proofs.Math.Path.{ap}
use Rattle.std.proofs.Math.Bool.{Bool}
use mathlib.Core.List.{List}
use Rattle.std.proofs.Math.Dec.{eqb}
use Rattle.basics.specs.Choice.{pick}
use Rattle.pattern.specs.declared.slot.Slot.{Slot}
use Rattle.pattern.specs.Patterns.{member, stated, lists, taken, takes}
use Rattle.pattern.specs.Accepted.{AcceptedSlot}
use Rattle.pattern.specs.Laws.Members.{member_false}
use Rattle.pattern.specs.Laws.Canonical.{slot-stated}
use Rattle.merging.specs.Slots.{merged_words, merged_slot}
use Rattle.merging.specs.Laws.Words.{listed_by, member-merged}

-- by the marks a and b, by whether each slot lists the word, and by whether it is 0, which neither lists
taken_both : (a b p q z : Bool) → (z ≡ true → p ≡ false) → (z ≡ true → q ≡ false)
    → pick (a && b) (not (listed_by a b p q || z)) (listed_by a b p q) ≡ (pick a (not (p || z)) p && pick b (not (q || z)) q)
unfolding listed_by
taken_both false false true true z no-p no-q = refl
taken_both false false true false z no-p no-q = refl
taken_both false false false q z no-p no-q = refl
taken_both false true true q true no-p no-q = absurd (true≢false (no-p refl))
taken_both false true true true false no-p no-q = refl
taken_both false true true false false no-p no-q = refl
taken_both false true false q z no-p no-q = refl
taken_both true false p true true no-p no-q = absurd (true≢false (no-q refl))
taken_both true false true true false no-p no-q = refl
taken_both true false false true false no-p no-q = refl
taken_both true false true false z no-p no-q = refl
taken_both true false false false true no-p no-q = refl
taken_both true false false false false no-p no-q = refl
taken_both true true true q z no-p no-q = refl
taken_both true true false true true no-p no-q = refl
taken_both true true false true false no-p no-q = refl
taken_both true true false false true no-p no-q = refl
taken_both true true false false false no-p no-q = refl

module _ (s u : Slot) where
  -- within the limit of eight it states them
  pub merged-stated : length (merged_words s u) ≤ 8 → stated (merged_slot s u) ≡ merged_words s u
  merged-stated h = slot-stated (max s.low u.low) (min s.high u.high) (s.excluding && u.excluding) (merged_words s u) h

  module _ (S : AcceptedSlot s) (U : AcceptedSlot u) where
    -- neither slot lists 0
    unlisted : (x : Slot) → AcceptedSlot x → (w : ℕ) → eqb w 0 ≡ true → lists x w ≡ false
    unlisted x X w e = let z : w ≡ 0 = eqb-true w 0 e in rw z ((member_false 0 (stated x)).1 X.nonzero)

    -- where not both are excluding, what it lists is what both take
    pub listed_taken : (s.excluding && u.excluding) ≡ false → (w : ℕ) → member w (merged_words s u) ≡ (takes s w && takes u w)
    unfolding takes
    listed_taken plain w =
        member-merged s.excluding u.excluding w (stated s) (stated u)
        ∙ ap (λ (b : Bool). pick b (not (listed w || eqb w 0)) (listed w)) (sym plain)
        ∙ taken_both s.excluding u.excluding (lists s w) (lists u w) (eqb w 0) (unlisted s S w) (unlisted u U w)
      where
        listed : ℕ → Bool
        listed w = listed_by s.excluding u.excluding (lists s w) (lists u w)

    pub merged_takes : length (merged_words s u) ≤ 8 → (w : ℕ) → takes (merged_slot s u) w ≡ (takes s w && takes u w)
    unfolding takes
    merged_takes few w =
        ap (λ (l : List ℕ). taken (s.excluding && u.excluding) w (member w l)) (merged-stated few)
        ∙ ap (taken (s.excluding && u.excluding) w) (member-merged s.excluding u.excluding w (stated s) (stated u))
        ∙ taken_both s.excluding u.excluding (lists s w) (lists u w) (eqb w 0) (unlisted s S w) (unlisted u U w)
