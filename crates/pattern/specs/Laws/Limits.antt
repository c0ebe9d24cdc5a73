-- The limits are tested on the words as they are stated, before repeats are dropped; where they hold, 16 never refuses what is held.
use Prim.Native.Nat.{ℕ, zero, suc, ◌+◌, ◌≤◌, ◌<◌}
use Rattle.std.proofs.Common.{arith, ◌∙◌}
use Rattle.std.proofs.Math.Decide.{dec_lt}
use Rattle.std.specs.Prelude.{◌≡◌, length, Ok, Err}
use Rattle.std.proofs.Math.Path.{refl, ap}
use borrow.Author.Tests.{lt-ltb}
use Rattle.pattern.specs.declared.Pattern.{Pattern}
use Rattle.pattern.specs.Patterns.{slot_at}
use Rattle.pattern.specs.Words.{canonical}
use Rattle.pattern.specs.Tests.{Verdict, and_then, slot_verdict, order_verdict, slots_verdict, limits_verdict, pattern_verdict}
use Rattle.pattern.specs.Laws.Accepting.{WordsRise, slots-accepted, order_accepted, limits-slots, limits-few}
use Rattle.pattern.specs.Laws.Canonical.{canonical-verdict, canonical-rising}

-- ---- a pattern that holds the slots of another

-- the slots of g, up to the sixteenth, are those of f as `canonical` puts them, and each of f's has eight entries for words
pub record Holds (g f : Pattern) : Type 0 where
  pub count : g.count ≡ f.count
  pub least : g.least ≡ f.least
  pub most : g.most ≡ f.most
  pub slot : (j : ℕ) → j < f.count → j < 16 → slot_at g j ≡ canonical (slot_at f j)
  pub eight : (j : ℕ) → j < f.count → j < 16 → length (slot_at f j).words ≡ 8

module _ {g f : Pattern} (H : Holds g f) where
  slots_held : f.count ≤ 16 → (n j : ℕ) → j + n ≤ f.count → slots_verdict slot_verdict g j n ≡ slots_verdict slot_verdict f j n
  unfolding slots_verdict
  slots_held few zero j h = refl
  slots_held few (suc n) j h =
      rw (H.slot j (omega arith) (omega arith), canonical-verdict (j + 1) (slot_at f j) (H.eight j (omega arith) (omega arith)), slots_held few n (j + 1) (omega arith))

  -- the tests 1 to 5 come to the same
  limits_held : limits_verdict g ≡ limits_verdict f
  unfolding limits_verdict
  limits_held =
      elim (dec_lt 16 f.count) [
        | yes h ↦ rw (H.count, lt-ltb 16 f.count h)
        | no h ↦
            let slots : slots_verdict slot_verdict g 0 g.count ≡ slots_verdict slot_verdict f 0 f.count = ap (slots_verdict slot_verdict g 0) H.count ∙ slots_held (omega arith) f.count 0 (omega arith) in
            rw (slots, H.count, H.least, H.most)
      ]

  order_held : limits_verdict f ≡ Ok tt → f.count ≤ 16 → slots_verdict order_verdict g 0 g.count ≡ Ok tt
  order_held e few =
      (slots-accepted order_verdict WordsRise order_accepted g g.count 0).1
      (λ i l h. let k : i < f.count = omega (arith, H.count) in rw (H.slot i k (omega arith)) (canonical-rising (slot_at f i) (limits-few f e i k)))

  -- and 16 adds nothing to them
  pub verdict_held : pattern_verdict g ≡ limits_verdict f
  unfolding pattern_verdict
  verdict_held = ap (λ (v : Verdict). and_then v (slots_verdict order_verdict g 0 g.count)) limits_held ∙ go (limits_verdict f) refl
    where
      go : (v : Verdict) → limits_verdict f ≡ v → and_then v (slots_verdict order_verdict g 0 g.count) ≡ v
      go (Err why) e = refl
      go (Ok tt) e = order_held e (limits-slots f e)
