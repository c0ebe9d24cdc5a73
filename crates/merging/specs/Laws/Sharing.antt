-- What 18 and 19 ask of two slots: a word that both take and a number that both gaps allow; and of two excluding slots at most eight words
-- between them. Two excluding slots always share a word.
use Rattle.std.specs.Prelude.{ℕ, ◌+◌, ◌≤◌, ◌<◌, min, max, ◌≡◌, refl, ◌↔◌, ◌⊎◌, Bool, true, false, ◌&&◌, length}
use Rattle.std.proofs.Common.{arith, sym, ◌∙◌, inl, inr, true≢false, length-append, length-take, get_or-take}
use Rattle.std.proofs.Math.Decide.{dec_lt}
use Rattle.std.proofs.Math.Bool.{and-eq-true_iff}
use mathlib.Core.List.{List, [], ◌∷◌, ◌++◌, Memᴰ}
use Rattle.basics.specs.Collections.{Every, none, more}
use Rattle.basics.specs.Laws.Collections.{every-mem, every-from}
use Rattle.pattern.specs.declared.slot.Slot.{Slot}
use Rattle.pattern.specs.Patterns.{stated, takes}
use Rattle.pattern.specs.Words.{Rising}
use Rattle.pattern.specs.Typed.{TypedSlot}
use Rattle.pattern.specs.Accepted.{AcceptedSlot}
use Rattle.pattern.specs.Laws.Members.{mem-member, member_true}
use Rattle.pattern.specs.Laws.Slots.{plain_takes, excluding_takes}
use Rattle.pattern.specs.Laws.Canonical.{stated-length}
use Rattle.pattern.specs.Laws.Words.{sorted-rising, sorted-mem, sorted-length}
use Rattle.merging.specs.Slots.{merged_words, merged_slot}
use Rattle.merging.specs.Merging.{remains}
use Rattle.merging.specs.Sharing.{InBoth, SharedWord, SharedGap, RoomSlot}
use Rattle.merging.specs.Laws.Words.{words_room}
use Rattle.merging.specs.Laws.Taking.{listed_taken}
use Rattle.merging.specs.Laws.Accepting.{remains_iff}

-- ---- two excluding slots share a word

-- of the numbers n to n + length ws one is not among words that rise
fresh : {ws : List ℕ} → Rising ws → (n : ℕ) → (w : ℕ) × ((n ≤ w) × ((w ≤ n + length ws) × (Memᴰ w ws → ⊥)))
fresh none n = (n, (omega arith, (omega arith, λ m. mathlib.Core.List.Memᴰ.not-nil m)))
fresh (more {x = x} {xs = xs} e p) n =
    elim (dec_lt n x) [
      | yes h ↦ (n, (omega arith, (omega arith, λ m. below h m)))
      | no h ↦
          let later = fresh p (n + 1) in
          (later.0, (omega (arith, later.1.0), (omega (arith, later.1.1.0), λ m. past (omega (arith, later.1.0)) later.1.1.1 m)))
    ]
  where
    below : n < x → Memᴰ n (x ∷ xs) → ⊥
    below h (mathlib.Core.List.Memᴰ.head q) = omega (arith, q)
    below h (mathlib.Core.List.Memᴰ.tail m) = let k : x < n = every-mem e m in omega arith

    past : {w : ℕ} → x < w → (Memᴰ w xs → ⊥) → Memᴰ w (x ∷ xs) → ⊥
    past h new (mathlib.Core.List.Memᴰ.head q) = omega (arith, q)
    past h new (mathlib.Core.List.Memᴰ.tail m) = new m

-- together they list at most sixteen words, so that one of 1 to 17 is taken by both
pub excluding_share : (s u : Slot) → s.count ≤ 8 → u.count ≤ 8 → s.excluding ≡ true → u.excluding ≡ true
    → (w : ℕ) × ((w ≤ 17) × ((takes s w ≡ true) × (takes u w ≡ true)))
excluding_share s u few few' a b =
    let all = stated s ++ stated u in
    let found = fresh (sorted-rising all) 1 in
    let new : Memᴰ found.0 all → ⊥ = λ m. found.1.1.1 ((sorted-mem found.0 all).1 m) in
    let many : length all ≤ 16 = omega (arith, length-append (stated s) (stated u), length-take s.count s.words, length-take u.count u.words) in (
      found.0,
      (
        omega (arith, found.1.1.0, sorted-length all),
        (
          (excluding_takes s a found.0).1 (found.1.0, λ m. new (mathlib.Core.List.Memᴰ.append_left (stated u) m)),
          (excluding_takes u b found.0).1 (found.1.0, λ m. new (mathlib.Core.List.Memᴰ.append_right (stated s) m)),
        ),
      ),
    )

-- ---- a slot

-- a plain slot takes words of 16 bits
plain_word : {s : Slot} → TypedSlot s → s.excluding ≡ false → (w : ℕ) → takes s w ≡ true → w ≤ 65535
plain_word {s} T plain w t =
    let small : Every (λ x. x ≤ 65535) (stated s) =
    every-from 0 (stated s) (λ k h. rw (get_or-take s.count s.words k 0 (omega (arith, length-take s.count s.words))) (T.word k)) in
    every-mem small ((plain_takes s plain w).0 t)

-- some number lies within both pairs of bounds exactly where the larger lower is at most the smaller upper
pub bounds_shared : (low high low' high' : ℕ) → (max low low' ≤ min high high') ↔ ((n : ℕ) × InBoth low high low' high' n)
bounds_shared low high low' high' = (
  λ h. (max low low', record { first = (omega arith, omega arith); second = (omega arith, omega arith) }),
  λ x. let n = x.0 in let p = x.1.first in let q = x.1.second in omega (arith, p.0, p.1, q.0, q.1),
)

first_of : (l : List ℕ) → 1 ≤ length l → (w : ℕ) × Memᴰ w l
first_of [] h = absurd (omega arith)
first_of (x ∷ l) h = (x, mathlib.Core.List.Memᴰ.head refl)

some_of : {w : ℕ} (l : List ℕ) → Memᴰ w l → 1 ≤ length l
some_of [] m = absurd (mathlib.Core.List.Memᴰ.not-nil m)
some_of (x ∷ l) m = omega arith

module _ {s u : Slot} (S : AcceptedSlot s) (U : AcceptedSlot u) (T : TypedSlot s) (W : TypedSlot u) where
  -- where not both are excluding, a word that both take has 16 bits
  by_marks : (a b : Bool) → s.excluding ≡ a → u.excluding ≡ b → (a && b) ≡ false → (w : ℕ) → (takes s w ≡ true) × (takes u w ≡ true) → w ≤ 65535
  by_marks true true a b e w t = absurd (true≢false e)
  by_marks true false a b e w t = plain_word W b w t.1
  by_marks false b' a b e w t = plain_word T a w t.0

  shared-word : (both : Bool) → (s.excluding && u.excluding) ≡ both → (both ≡ false → 1 ≤ (merged_slot s u).count) ↔ SharedWord s u
  shared-word true e =
      let marks = (and-eq-true_iff s.excluding u.excluding).0 e in (
        λ h. let x = excluding_share s u S.few U.few marks.0 marks.1 in (x.0, (omega (arith, x.1.0), x.1.1)),
        λ x f. absurd (true≢false f),
      )
  shared-word false e = (
    λ h.
        let w = first_of (merged_words s u) (h refl) in
        let t = (and-eq-true_iff (takes s w.0) (takes u w.0)).0 (sym (listed_taken s u S U e w.0) ∙ mem-member w.1) in
        (w.0, (by_marks s.excluding u.excluding refl refl e w.0 t, t)),
    λ x f. some_of (merged_words s u) (member_true x.0 (merged_words s u) (listed_taken s u S U e x.0 ∙ (and-eq-true_iff (takes s x.0) (takes u x.0)).1 x.1.1)),
  )

  pub slot-shared : (remains (merged_slot s u) ≡ true) ↔ (SharedWord s u × SharedGap s u)
  slot-shared =
      let told = remains_iff (merged_slot s u) in
      let words-told = shared-word (s.excluding && u.excluding) refl in
      let bounds = bounds_shared s.low s.high u.low u.high in
      (λ e. let p = told.0 e in (words-told.0 p.0, bounds.0 p.1), λ p. told.1 (words-told.1 p.0, bounds.1 p.1))

  -- where nothing is left, one of the two is missing
  pub slot-unshared : remains (merged_slot s u) ≡ false → (SharedWord s u → ⊥) ⊎ (SharedGap s u → ⊥)
  slot-unshared e =
      elim (dec_lt (min s.high u.high) (max s.low u.low)) [
        | yes h ↦ inr (λ n. let k = (bounds_shared s.low s.high u.low u.high).1 n in omega arith)
        | no h ↦ inl (λ w. true≢false (sym (slot-shared.1 (w, (bounds_shared s.low s.high u.low u.high).0 (omega arith))) ∙ e))
      ]

-- the merged slot lists at most eight words exactly where there is room
pub slot_room : {s u : Slot} → AcceptedSlot s → AcceptedSlot u → ((merged_slot s u).count ≤ 8) ↔ RoomSlot s u
slot_room {s} {u} S U =
    let h = S.few in
    let k = U.few in
    words_room s.excluding u.excluding (stated s) (stated u) (omega (arith, stated-length s)) (omega (arith, stated-length u))
