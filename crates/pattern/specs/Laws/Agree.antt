-- Patterns that agree: their slots take the same words, and where both are accepted they state the same.
use Rattle.std.specs.Prelude.{ℕ, ◌<◌, ◌≡◌, refl, List, length, get_or}
use Rattle.std.proofs.Common.{arith, sym, ◌∙◌, ap, get_or-take}
use Rattle.pattern.specs.declared.slot.Slot.{Slot}
use Rattle.pattern.specs.declared.Pattern.{Pattern}
use Rattle.pattern.specs.Patterns.{stated, takes, slot_at}
use Rattle.pattern.specs.Stated.{SameSlot, SameStated}
use Rattle.pattern.specs.Agree.{AgreeSlot, Agree}
use Rattle.pattern.specs.Typed.{Typed}
use Rattle.pattern.specs.Accepted.{Accepted}
use Rattle.pattern.specs.Laws.Members.{member-set}
use Rattle.pattern.specs.Laws.Words.{rising_once}
use Rattle.pattern.specs.Laws.Stated.{stated-count, stated_same}

-- ---- an equivalence

pub agree_slot : (s : Slot) → AgreeSlot s s
agree_slot s = record { low = refl; high = refl; excluding = refl; words = λ w. (λ m. m, λ m. m) }

pub agree_refl : (f : Pattern) → Agree f f
agree_refl f = record { count = refl; least = refl; most = refl; slot = λ j h. agree_slot (slot_at f j) }

slot-sym : {s u : Slot} → AgreeSlot s u → AgreeSlot u s
slot-sym a = record { low = sym a.low; high = sym a.high; excluding = sym a.excluding; words = λ w. ((a.words w).1, (a.words w).0) }

pub agree_sym : {f g : Pattern} → Agree f g → Agree g f
agree_sym a = record { count = sym a.count; least = sym a.least; most = sym a.most; slot = λ j h. slot-sym (a.slot j (omega (arith, a.count))) }

slot_trans : {s u v : Slot} → AgreeSlot s u → AgreeSlot u v → AgreeSlot s v
slot_trans a b = record {
  low = a.low ∙ b.low;
  high = a.high ∙ b.high;
  excluding = a.excluding ∙ b.excluding;
  words = λ w. (λ m. (b.words w).0 ((a.words w).0 m), λ m. (a.words w).1 ((b.words w).1 m));
}

pub agree_trans : {f g h : Pattern} → Agree f g → Agree g h → Agree f h
agree_trans a b = record { count = a.count ∙ b.count; least = a.least ∙ b.least; most = a.most ∙ b.most; slot = λ j k. slot_trans (a.slot j k) (b.slot j (omega (arith, a.count))) }

-- ---- what follows

-- the same words are taken
pub agree_takes : {s u : Slot} → AgreeSlot s u → (w : ℕ) → takes s w ≡ takes u w
unfolding takes
agree_takes {s} {u} a w = rw (a.excluding, member-set w (stated s) (stated u) (a.words w))

same_slot : {s u : Slot} → SameSlot s u → AgreeSlot s u
same_slot same = record { low = same.low; high = same.high; excluding = same.excluding; words = λ w. rw (stated_same same) (λ m. m, λ m. m) }

-- patterns that state the same agree
pub same_agree : {f g : Pattern} → SameStated f g → Agree f g
same_agree same = record { count = same.count; least = same.least; most = same.most; slot = λ j h. same_slot (same.slot j h) }

-- and accepted patterns that agree state the same
module _ {f g : Pattern} (F : Typed f) (G : Typed g) (A : Accepted f) (B : Accepted g) (a : Agree f g) where
  -- word for word
  pub agree_stated : (j : ℕ) → j < f.count → stated (slot_at f j) ≡ stated (slot_at g j)
  agree_stated j h = rising_once (A.rising j h) (B.rising j (omega (arith, a.count))) (a.slot j h).words

  module _ (j : ℕ) (h : j < f.count) where
    few : j < 16
    few = omega (arith, A.few)

    other : j < g.count
    other = omega (arith, a.count)

    counts : (slot_at f j).count ≡ (slot_at g j).count
    counts =
        sym (stated-count (slot_at f j) (F.slot j few).eight (A.slot j h).few)
        ∙ ap (λ (l : List ℕ). length l) (agree_stated j h)
        ∙ stated-count (slot_at g j) (G.slot j few).eight (B.slot j other).few

    word : (k : ℕ) → k < (slot_at f j).count → get_or (slot_at f j).words k 0 ≡ get_or (slot_at g j).words k 0
    word k l =
        sym (get_or-take (slot_at f j).count (slot_at f j).words k 0 l)
        ∙ ap (λ (ws : List ℕ). get_or ws k 0) (agree_stated j h)
        ∙ get_or-take (slot_at g j).count (slot_at g j).words k 0 (omega (arith, counts))

  pub agree_same : SameStated f g
  agree_same = record {
    count = a.count;
    least = a.least;
    most = a.most;
    slot = λ j h. record {
      count = counts j h;
      low = (a.slot j h).low;
      high = (a.slot j h).high;
      excluding = (a.slot j h).excluding;
      word = word j h;
      long = (F.slot j (few j h)).eight ∙ sym (G.slot j (few j h)).eight;
    };
  }
