-- The merged pattern is accepted: its words are words of the two slots, and 18 and 19 see to the rest.
use Rattle.std.specs.Prelude.{ℕ, ◌≤◌, ◌<◌, ◌≡◌, refl, ◌↔◌, Bool, true, false, ◌&&◌, ◌||◌, ltb, leb}
use Rattle.std.proofs.Common.{arith, sym, ◌∙◌, ap, subst, true≢false, ltb-true, lt-ltb, leb-true, le-leb}
use Rattle.std.proofs.Math.Bool.{and-eq-true_iff}
use mathlib.Core.List.{Memᴰ}
use Rattle.pattern.specs.declared.slot.Slot.{Slot}
use Rattle.pattern.specs.declared.Pattern.{Pattern}
use Rattle.pattern.specs.Patterns.{stated, slot_at}
use Rattle.pattern.specs.Words.{Rising}
use Rattle.pattern.specs.Accepted.{AcceptedSlot, Accepted}
use Rattle.pattern.specs.Laws.Members.{mem-member, member_false}
use Rattle.merging.specs.Slots.{merged_words, merged_slot}
use Rattle.merging.specs.Merging.{merged_pattern, remains}
use Rattle.merging.specs.Laws.Slots.{merged_at}
use Rattle.merging.specs.Laws.Words.{listed_by, member-merged, merged-rising}
use Rattle.merging.specs.Laws.Taking.{merged-stated}
use Rattle.merging.specs.Laws.Passing.{Passed}

-- ---- what the test of a slot tells

either-holds : (b c : Bool) → (b || c) ≡ true → b ≡ false → c ≡ true
either-holds true c e n = absurd (true≢false n)
either-holds false c e n = e

-- the slot lists a word, or is excluding; and a number is left to its gap
pub remains_iff : (s : Slot) → (remains s ≡ true) ↔ ((s.excluding ≡ false → 1 ≤ s.count) × (s.low ≤ s.high))
unfolding remains
remains_iff s = (
  λ e.
      let p = (and-eq-true_iff (s.excluding || ltb 0 s.count) (leb s.low s.high)).0 e in
      (λ n. ltb-true 0 s.count (either-holds s.excluding (ltb 0 s.count) p.0 n), leb-true s.low s.high p.1),
  λ p. rw (le-leb s.low s.high p.1) (by_mark s.excluding p.0),
)
  where
    by_mark : (b : Bool) → (b ≡ false → 1 ≤ s.count) → ((b || ltb 0 s.count) && true) ≡ true
    by_mark true h = refl
    by_mark false h = rw (lt-ltb 0 s.count (h refl))

-- ---- a slot

-- a word that neither slot lists is not listed
neither : (a b : Bool) → listed_by a b false false ≡ false
unfolding listed_by
neither false true = refl
neither false false = refl
neither true true = refl
neither true false = refl

module _ {s u : Slot} (S : AcceptedSlot s) (U : AcceptedSlot u) where
  no_zero : Memᴰ 0 (merged_words s u) → ⊥
  no_zero m =
      let p = (member_false 0 (stated s)).1 S.nonzero in
      let q = (member_false 0 (stated u)).1 U.nonzero in
      true≢false (sym (mem-member m) ∙ member-merged s.excluding u.excluding 0 (stated s) (stated u) ∙ rw (p, q) (neither s.excluding u.excluding))

  merged-slot-accepted : (merged_slot s u).count ≤ 8 → remains (merged_slot s u) ≡ true → AcceptedSlot (merged_slot s u)
  merged-slot-accepted few left =
      let p = (remains_iff (merged_slot s u)).0 left in
      record {
        some = p.0;
        few = few;
        nonzero = λ m. no_zero (rw (merged-stated s u few) at m);
        ordered = p.1;
        narrow = let h = S.narrow in omega arith;
      }

-- ---- the pattern

module _ {f g : Pattern} (P : Passed f g) where
  abbrev F : Accepted f
  F = P.first

  abbrev G : Accepted g
  G = P.second

  -- slot j of the second pattern
  pub second_slot : (j : ℕ) → j < f.count → AcceptedSlot (slot_at g j)
  second_slot j h = G.slot j (omega (arith, P.count))

  second_rising : (j : ℕ) → j < f.count → Rising (stated (slot_at g j))
  second_rising j h = G.rising j (omega (arith, P.count))

  pub slot_fits : (j : ℕ) → j < f.count → (merged_slot (slot_at f j) (slot_at g j)).count ≤ 8
  slot_fits j h = subst (λ (s : Slot). s.count ≤ 8) (merged_at f g F.few j h) (P.fits.slot j h)

  slot-remains : (j : ℕ) → j < f.count → remains (merged_slot (slot_at f j) (slot_at g j)) ≡ true
  slot-remains j h = subst (λ (s : Slot). remains s ≡ true) (merged_at f g F.few j h) (P.left.slot j h)

  pub merged-accepted : Accepted (merged_pattern f g)
  merged-accepted = record {
    some = F.some;
    few = F.few;
    slot = λ j h. rw (merged_at f g F.few j h) (merged-slot-accepted (F.slot j h) (second_slot j h) (slot_fits j h) (slot-remains j h));
    first = let z = F.first in ap (λ (x : Slot). x.high) (merged_at f g F.few 0 F.some) ∙ omega arith;
    least = let h = F.least in omega arith;
    ordered = P.left.span;
    most = let h = F.most in omega arith;
    rising = λ j h. rw (merged_at f g F.few j h, merged-stated (slot_at f j) (slot_at g j) (slot_fits j h)) (merged-rising (slot_at f j).excluding (slot_at g j).excluding (F.rising j h) (second_rising j h));
  }
