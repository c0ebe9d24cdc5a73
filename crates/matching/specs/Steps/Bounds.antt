-- What the steps on one slot come to: the least place that has a property; and the last at which a sentence ends.
use Rattle.std.specs.Prelude.{ℕ, ◌+◌, ◌-◌, ◌≤◌, ◌<◌, List, Bool, true, false, ◌≡◌, Option, Some, None}
use Rattle.pattern.specs.declared.Pattern.{Pattern}
use Rattle.pattern.specs.Patterns.{slot_at}
use Rattle.matching.specs.Occurrence.{at}

-- r is the first of n places, from `from` on, that fits, or past them
pub record First (fits : ℕ → Bool) (n from r : ℕ) : Type 0 where
  pub low : from ≤ r
  pub hit : r ≤ n → fits r ≡ true
  pub none : (p : ℕ) → p < r → from ≤ p → fits p ≡ true → ⊥

-- r is the last place from `from` on and before `to` at which a sentence ends, or none
pub record LastEnd (ends : ℕ → Bool) (from to : ℕ) (r : Option ℕ) : Type 0 where
  pub some : (e : ℕ) → r ≡ Some e → (from ≤ e) × (e < to) × (ends e ≡ true)
  pub after : (e : ℕ) → r ≡ Some e → (x : ℕ) → e < x → x < to → ends x ≡ false
  pub none : r ≡ None → (x : ℕ) → from ≤ x → x < to → ends x ≡ false

-- r is the least number with C
pub record Least (C : ℕ → Type 0) (r : ℕ) : Type 0 where
  pub holds : C r
  pub least : (x : ℕ) → C x → r ≤ x

-- what the slot before asks in the row p of the place z of the slot j: after the first slot, the gap; of the first, the last asks the length
pub record Behind (f : Pattern) (p : List ℕ) (j z : ℕ) : Type 0 where
  pub after : 0 < j → at p (j - 1) + (slot_at f j).low + 1 ≤ z
  pub starts : j ≡ 0 → at p (f.count - 1) + 1 ≤ z + f.most

-- what the slot after asks of it: before the last slot, the gap; of the last, the first asks the length
pub record Ahead (f : Pattern) (p : List ℕ) (j z : ℕ) : Type 0 where
  pub before : j + 1 < f.count → at p (j + 1) ≤ z + (slot_at f (j + 1)).high + 1
  pub ends : j + 1 ≡ f.count → at p 0 + f.least ≤ z + 1

-- r is the slot after j of m in a ring
pub record Next (m j r : ℕ) : Type 0 where
  pub on : j + 1 < m → r ≡ j + 1
  pub round : j + 1 ≡ m → r ≡ 0
  pub inside : r < m
