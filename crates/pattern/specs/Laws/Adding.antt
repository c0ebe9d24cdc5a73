-- A pattern made by adding slots to a new one passes 16: its words are in order, and adding keeps them so.
use Rattle.std.specs.Prelude.{ℕ, ◌+◌, ◌<◌, ◌≡◌, Bool, List, length, Ok, Err}
use Rattle.std.proofs.Common.{arith, ◌∙◌, length-set, get_or-set_same, get_or-set_other, leb-false}
use Rattle.std.proofs.Math.Decide.{ℕ_discrete}
use Rattle.std.proofs.Math.Path.{refl}
use Rattle.std.proofs.Math.Bool.{true, false}
use Rattle.std.proofs.Math.Dec.{leb}
use Rattle.basics.specs.Choice.{pick}
use Rattle.pattern.specs.declared.slot.Slot.{Slot}
use Rattle.pattern.specs.declared.Pattern.{Pattern}
use Rattle.pattern.specs.declared.refusal.Refusal.TheVariants.{SlotCount}
use Rattle.pattern.specs.Patterns.{stated, no_slot, slot_at, slot_of, with_slot, with_span, empty_pattern}
use Rattle.pattern.specs.Words.{Rising, canonical}
use Rattle.pattern.specs.Tests.{Verdict, slot_verdict, order_verdict, slots_verdict}
use Rattle.pattern.specs.Adding.{added, extended, pattern_after}
use Rattle.pattern.specs.Laws.Accepting.{WordsRise, order_accepted, slot-accepted, slots-accepted}
use Rattle.pattern.specs.Laws.Canonical.{canonical-rising}

-- the words of every stated slot rise, and there is room for sixteen slots
pub record InOrder (f : Pattern) : Type 0 where
  pub sixteen : length f.slots ≡ 16
  pub rising : (j : ℕ) → j < f.count → Rising (stated (slot_at f j))

pub new_in_order : InOrder empty_pattern
new_in_order = record { sixteen = refl; rising = λ j h. absurd (omega arith) }

-- other span limits leave it so
pub span_in_order : {f : Pattern} → InOrder f → (least most : ℕ) → InOrder (with_span f least most)
span_in_order o least most = record { sixteen = o.sixteen; rising = o.rising }

-- such a pattern passes 16
pub in_order-passes : {f : Pattern} → InOrder f → slots_verdict order_verdict f 0 f.count ≡ Ok tt
in_order-passes {f} o = (slots-accepted order_verdict WordsRise order_accepted f f.count 0).1 (λ i l h. o.rising i (omega arith))

-- the pattern with a slot whose words rise, last
slot_in_order : {f : Pattern} → InOrder f → f.count < 16 → (s : Slot) → Rising (stated s) → InOrder (with_slot f s)
slot_in_order {f} o room s r = record {
  sixteen = length-set f.slots f.count s ∙ o.sixteen;
  rising = λ j h. elim (ℕ_discrete j f.count) [
    | yes e ↦ rw (e, get_or-set_same f.slots f.count s no_slot (omega (arith, o.sixteen))) r
    | no e ↦ rw (get_or-set_other f.slots f.count j s no_slot (λ q. e q)) (o.rising j (omega arith))
  ];
}

module _ {f : Pattern} (o : InOrder f) (low high : ℕ) (excluding : Bool) (ws : List ℕ) where
  by_verdict : f.count < 16 → (v : Verdict) → slot_verdict (f.count + 1) (slot_of low high excluding ws) ≡ v → InOrder (pattern_after f (added v f (canonical (slot_of low high excluding ws))))
  by_verdict room (Err why) e = o
  by_verdict room (Ok tt) e =
      let fits = ((slot-accepted f.count (slot_of low high excluding ws)).0 e).0 in
      slot_in_order o room (canonical (slot_of low high excluding ws)) (canonical-rising (slot_of low high excluding ws) fits.few)

  -- whatever is added, and whether it is refused or not
  pub adding_in_order : InOrder (pattern_after f (extended f low high excluding ws))
  unfolding extended
  adding_in_order = go (leb 16 f.count) refl
    where
      go : (b : Bool) → leb 16 f.count ≡ b
          → InOrder (pattern_after f (pick b (Err SlotCount) (added (slot_verdict (f.count + 1) (slot_of low high excluding ws)) f (canonical (slot_of low high excluding ws)))))
      go true e = o
      go false e = by_verdict (leb-false 16 f.count e) (slot_verdict (f.count + 1) (slot_of low high excluding ws)) refl
