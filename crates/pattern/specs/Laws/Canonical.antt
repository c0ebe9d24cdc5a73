-- The slot that a pattern holds: it says what the slot that was stated says, gets the same verdict of the tests 2, 3 and 4, and within the
-- limit of eight words passes 16.
use Rattle.std.specs.Prelude.{ℕ, ◌-◌, ◌≤◌, ◌<◌, ◌≡◌, ◌↔◌, Bool, true, false, length, take, replicate, ltb}
use Rattle.std.proofs.Common.{arith, sym, ◌∙◌, ap, length-append, length-take, take_all, lt-ltb, le-ltb}
use Rattle.std.proofs.Math.Decide.{dec_lt}
use mathlib.Core.List.{List, ◌++◌, Memᴰ}
use Rattle.std.proofs.lemmas.List.{length-replicate}
use Rattle.std.proofs.Math.Seq.{take-append_seam}
use Rattle.pattern.specs.declared.slot.Slot.{Slot}
use Rattle.pattern.specs.Patterns.{member, stated, lists, padded, slot_of}
use Rattle.pattern.specs.Words.{Rising, sorted, canonical}
use Rattle.pattern.specs.Agree.{AgreeSlot}
use Rattle.pattern.specs.Tests.{fewest_words, slot_verdict}
use Rattle.pattern.specs.Laws.Members.{member-set}
use Rattle.pattern.specs.Laws.Words.{rising_once, sorted-rising, sorted-mem, sorted-length, sorted_some}
use Rattle.pattern.specs.Laws.Agree.{agree_slot}
use Rattle.pattern.specs.Laws.Stated.{stated-count}

-- ---- which slot it is

pub canonical-few : (s : Slot) → s.count ≤ 8 → canonical s ≡ slot_of s.low s.high s.excluding (sorted (stated s))
unfolding canonical
canonical-few s h = rw (le-ltb 8 s.count h)

pub canonical_many : (s : Slot) → 8 < s.count → canonical s ≡ s
unfolding canonical
canonical_many s h = rw (lt-ltb 8 s.count h)

-- eight entries
pub padded_eight : (ws : List ℕ) → length (padded ws) ≡ 8
padded_eight ws = simp (length-append, length-take, length-replicate) (omega arith)

-- a slot made of at most eight words states these
pub slot-stated : (low high : ℕ) (excluding : Bool) (ws : List ℕ) → length ws ≤ 8 → stated (slot_of low high excluding ws) ≡ ws
slot-stated low high excluding ws h =
    ap (λ (l : List ℕ). take (length ws) (l ++ replicate (8 - length ws) 0)) (take_all 8 ws h) ∙ take-append_seam ws (replicate (8 - length ws) 0)

pub stated-length : (s : Slot) → length (stated s) ≤ s.count
stated-length s = simp length-take (omega arith)

pub canonical-stated : (s : Slot) → s.count ≤ 8 → stated (canonical s) ≡ sorted (stated s)
canonical-stated s h =
    ap stated (canonical-few s h) ∙ slot-stated s.low s.high s.excluding (sorted (stated s)) (omega (arith, sorted-length (stated s), stated-length s))

-- ---- it says the same

pub canonical-agrees : (s : Slot) → AgreeSlot s (canonical s)
canonical-agrees s =
    elim (dec_lt 8 s.count) [
      | yes h ↦ rw (canonical_many s h) (agree_slot s)
      | no h ↦
          let few : s.count ≤ 8 = omega arith in
          let is = canonical-few s few in
          record {
            low = ap (λ (u : Slot). u.low) (sym is);
            high = ap (λ (u : Slot). u.high) (sym is);
            excluding = ap (λ (u : Slot). u.excluding) (sym is);
            words = λ w. rw (canonical-stated s few) ((sorted-mem w (stated s)).1, (sorted-mem w (stated s)).0);
          }
    ]

-- ---- its tests

-- as many words as its kind asks for
few_same : (excluding : Bool) (ws : List ℕ) → ltb (length (sorted ws)) (fewest_words excluding) ≡ ltb (length ws) (fewest_words excluding)
few_same true ws = le-ltb (length (sorted ws)) 0 (omega arith) ∙ sym (le-ltb (length ws) 0 (omega arith))
few_same false ws =
    elim (dec_lt (length ws) 1) [
      | yes h ↦ lt-ltb (length (sorted ws)) 1 (omega (arith, sorted-length ws)) ∙ sym (lt-ltb (length ws) 1 h)
      | no h ↦ le-ltb (length (sorted ws)) 1 (sorted_some ws (omega arith)) ∙ sym (le-ltb (length ws) 1 (omega arith))
    ]

module _ (s : Slot) (few : s.count ≤ 8) (eight : length s.words ≡ 8) where
  all : length (stated s) ≡ s.count
  all = stated-count s eight few

  first : ltb (length (sorted (stated s))) (fewest_words s.excluding) ≡ ltb s.count (fewest_words s.excluding)
  first = few_same s.excluding (stated s) ∙ ap (λ (n : ℕ). ltb n (fewest_words s.excluding)) all

  second : ltb 8 (length (sorted (stated s))) ≡ ltb 8 s.count
  second = le-ltb 8 (length (sorted (stated s))) (omega (arith, sorted-length (stated s), all)) ∙ sym (le-ltb 8 s.count few)

  third : lists (slot_of s.low s.high s.excluding (sorted (stated s))) 0 ≡ lists s 0
  third =
      ap (member 0) (slot-stated s.low s.high s.excluding (sorted (stated s)) (omega (arith, sorted-length (stated s), all)))
      ∙ member-set 0 (sorted (stated s)) (stated s) (sorted-mem 0 (stated s))

  few-verdict : (k : ℕ) → slot_verdict k (slot_of s.low s.high s.excluding (sorted (stated s))) ≡ slot_verdict k s
  unfolding slot_verdict
  few-verdict k = rw (first, second, third)

-- the tests 2, 3 and 4 come to the same before repeats are dropped and after
pub canonical-verdict : (k : ℕ) (s : Slot) → length s.words ≡ 8 → slot_verdict k (canonical s) ≡ slot_verdict k s
canonical-verdict k s eight =
    elim (dec_lt 8 s.count) [
      | yes h ↦ ap (slot_verdict k) (canonical_many s h)
      | no h ↦ let few : s.count ≤ 8 = omega arith in ap (slot_verdict k) (canonical-few s few) ∙ few-verdict s few eight k
    ]

-- and 16 never refuses it within the limit of eight
pub canonical-rising : (s : Slot) → s.count ≤ 8 → Rising (stated (canonical s))
canonical-rising s h = rw (canonical-stated s h) (sorted-rising (stated s))

-- sorted, words that rise already stay, and words of the same set come to the same
pub sorted_same : {ws : List ℕ} → Rising ws → sorted ws ≡ ws
sorted_same {ws} r = rising_once (sorted-rising ws) r (λ w. sorted-mem w ws)

pub sorted-set : (xs ys : List ℕ) → ((w : ℕ) → Memᴰ w xs ↔ Memᴰ w ys) → sorted xs ≡ sorted ys
sorted-set xs ys same =
    rising_once (sorted-rising xs) (sorted-rising ys) (λ w. (λ m. (sorted-mem w ys).1 ((same w).0 ((sorted-mem w xs).0 m)), λ m. (sorted-mem w xs).1 ((same w).1 ((sorted-mem w ys).0 m))))

-- the slot made of at most eight words, as a pattern holds it
pub canonical_of : (low high : ℕ) (excluding : Bool) (ws : List ℕ) → length ws ≤ 8 → canonical (slot_of low high excluding ws) ≡ slot_of low high excluding (sorted ws)
canonical_of low high excluding ws h = canonical-few (slot_of low high excluding ws) h ∙ ap (λ (l : List ℕ). slot_of low high excluding (sorted l)) (slot-stated low high excluding ws h)
