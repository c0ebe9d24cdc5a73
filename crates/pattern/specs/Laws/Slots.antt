-- What a slot takes: its mark and its words say it, whatever its gap, and so do its numbers.
use Prim.Native.Nat.{ℕ, min, ◌≤◌}
use Rattle.std.proofs.Math.Decide.{dec_lt}
use Rattle.std.proofs.Common.{arith, sym, ◌∙◌, true≢false, le-ltb, eqb-true}
use Rattle.std.specs.Prelude.{◌≡◌, refl, ◌↔◌, Bool, true, false, not, length, drop}
use Rattle.std.proofs.Math.Path.{ap}
use mathlib.Core.List.{List, Memᴰ}
use Rattle.std.proofs.lemmas.Bool.{false≢true, eqb-false}
use Rattle.std.proofs.Math.Dec.{eqb}
use Rattle.std.proofs.Math.ListN.{get_or, take}
use Rattle.std.proofs.Math.Seq.{take_all}
use Rattle.pattern.specs.declared.slot.Slot.{Slot}
use Rattle.pattern.specs.Patterns.{member, stated, lists, taken, takes, with_gap}
use Rattle.pattern.specs.Laws.Members.{member_true, mem-member, member_false}
use Rattle.pattern.specs.Numbers.{Numbers, mark_number, numbers_take}

-- a plain slot takes the words that it lists
pub plain_takes : (s : Slot) → s.excluding ≡ false → (w : ℕ) → (takes s w ≡ true) ↔ Memᴰ w (stated s)
unfolding takes
plain_takes s e w = rw e (λ t. member_true w (stated s) t, λ m. mem-member m)

excluded : (w : ℕ) (listed : Bool) → (taken true w listed ≡ true) ↔ ((1 ≤ w) × (listed ≡ false))
excluded w true = (λ t. absurd (false≢true t), λ p. absurd (true≢false p.1))
excluded w false = go (eqb w 0) refl
  where
    go : (zero : Bool) → eqb w 0 ≡ zero → (not zero ≡ true) ↔ ((1 ≤ w) × (false ≡ false))
    go true q = (λ t. absurd (false≢true t), λ p. absurd (omega (arith, eqb-true w 0 q, p.0)))
    go false q = (λ t. let h : w ≡ 0 → ⊥ = eqb-false w 0 q in (omega arith, refl), λ p. refl)

-- an excluding slot takes every number from 1 up that it does not list
pub excluding_takes : (s : Slot) → s.excluding ≡ true → (w : ℕ) → (takes s w ≡ true) ↔ ((1 ≤ w) × (Memᴰ w (stated s) → ⊥))
unfolding takes
excluding_takes s e w =
    let x = excluded w (lists s w) in
    let m = member_false w (stated s) in
    rw e (λ t. ((x.0 t).0, m.0 (x.0 t).1), λ p. x.1 (p.0, m.1 p.1))

-- and any word where it lists none
pub any_taken : (s : Slot) → s.excluding ≡ true → s.count ≡ 0 → (w : ℕ) → 1 ≤ w → takes s w ≡ true
unfolding takes member
any_taken s e none w h = rw (e, none) ((excluded w false).1 (h, refl))

-- it takes the same whatever the gap before it
pub takes_gap : (s : Slot) (low high w : ℕ) → takes (with_gap s low high) w ≡ takes s w
unfolding takes
takes_gap s low high w = refl

mark-told : (excluding : Bool) → eqb (mark_number excluding) 1 ≡ excluding
mark-told true = refl
mark-told false = refl

module _ {s : Slot} {l : List ℕ} (N : Numbers s l) where
  numbers-length : length l ≡ 12
  numbers-length = let e = N.eight in ap length N.is ∙ omega arith

  -- of a stated number over eight only the eight words count
  all_stated : take (min s.count 8) s.words ≡ take s.count s.words
  all_stated =
      elim (dec_lt s.count 8) [
        | yes h ↦ let e : min s.count 8 ≡ s.count = omega arith in ap (λ (n : ℕ). take n s.words) e
        | no h ↦ let e : min s.count 8 ≡ 8 = omega arith in
            ap (λ (n : ℕ). take n s.words) e
            ∙ take_all 8 s.words (omega (arith, N.eight))
            ∙ sym (take_all s.count s.words (omega (arith, N.eight)))
      ]

  pub numbers_taken : (w : ℕ) → numbers_take l w ≡ takes s w
  unfolding numbers_take takes
  numbers_taken w =
      let twelve = numbers-length in
      let words : take 8 (drop 4 l) ≡ s.words = ap (λ (r : List ℕ). take 8 (drop 4 r)) N.is ∙ take_all 8 s.words (omega (arith, N.eight)) in
      let count : get_or l 3 0 ≡ min s.count 8 = ap (λ (r : List ℕ). get_or r 3 0) N.is in
      let mark : eqb (get_or l 2 0) 1 ≡ s.excluding = ap (λ (r : List ℕ). eqb (get_or r 2 0) 1) N.is ∙ mark-told s.excluding in
      let listed : take (get_or l 3 0) (take 8 (drop 4 l)) ≡ stated s = ap (take (get_or l 3 0)) words ∙ ap (λ (i : ℕ). take i s.words) count ∙ all_stated in
      rw (le-ltb (length l) 12 (omega arith)) (rw (mark, listed))
