-- What a row that is an occurrence brings; an excerpt is empty exactly where there is none.
use Rattle.std.specs.Prelude.{ℕ, ◌-◌, ◌≤◌, ◌≡◌, refl, ◌↔◌, Bool, true, false, List, [], length, take, drop, Result, Ok, Err}
use Rattle.std.proofs.Common.{arith, ap, length-take, length-drop}
use Rattle.pattern.specs.declared.Pattern.{Pattern}
use Rattle.matching.specs.Occurrence.{plain, Occurs, at}
use Rattle.matching.specs.Occurrences.{occurs}
use Rattle.matching.specs.Answers.{row_verdict}
use Rattle.matching.proofs.Laws.Ready.{RowAccepted, row-accepted}
use Rattle.matching.proofs.Laws.Tests.{occurs_iff}
use Rattle.pattern.specs.declared.refusal.Refusal.{Refusal}
use Rattle.excerpts.specs.Answers.{tested_by, is_occurrence, if_occurrence, excerpt_of}
use Rattle.pattern.specs.Tests.{Verdict}

-- ---- what a row that is an occurrence brings

-- the tests are passed, and the row is an occurrence
pub record Hit (f : Pattern) (t row : List ℕ) : Type 0 where
  pub accepted : RowAccepted f t row
  pub occurs : Occurs f t row

tested_yes : (v : Verdict) (b : Bool) → tested_by v b ≡ Ok true → (v ≡ Ok tt) × (b ≡ true)
tested_yes (Ok tt) true e = (refl, refl)
tested_yes (Ok tt) false e = let z : ◌≡◌ {A = ℕ} 0 1 = cc in absurd (omega arith)
tested_yes (Err why) b e = let z : ◌≡◌ {A = ℕ} 0 1 = cc in absurd (omega arith)

pub hit : (f : Pattern) (t row : List ℕ) → is_occurrence f t row ≡ Ok true → Hit f t row
hit f t row e =
    let b = tested_yes (row_verdict f t row) (occurs f t row) e in
    record { accepted = row-accepted b.0; occurs = (occurs_iff f (plain f t) row).0 b.1 }

-- from its first place to its last
pub hit_first : {f : Pattern} {t row : List ℕ} → Hit f t row → 1 ≤ at row 0
hit_first h = (h.occurs.word 0 h.accepted.ready.some).inside.0

pub hit_order : {f : Pattern} {t row : List ℕ} → Hit f t row → at row 0 ≤ at row (f.count - 1)
hit_order h = omega (arith, h.occurs.span, h.accepted.ready.least)

pub hit_last : {f : Pattern} {t row : List ℕ} → Hit f t row → at row (f.count - 1) ≤ length t
hit_last {f} h = (h.occurs.word (f.count - 1) (omega (arith, h.accepted.ready.some))).inside.1

-- ---- the excerpt

-- the words from the first place to the last are at least one
excerpt_some : (f : Pattern) (t row : List ℕ) → Hit f t row → take (at row (f.count - 1) - (at row 0 - 1)) (drop (at row 0 - 1) t) ≡ [] → ⊥
excerpt_some f t row h e =
    let n = at row (f.count - 1) - (at row 0 - 1) in
    let d = drop (at row 0 - 1) t in
    omega (arith, ap length e, length-take n d, length-drop (at row 0 - 1) t, hit_first h, hit_order h, hit_last h)

chosen : (x : Result Bool Refusal) {a : List ℕ} → if_occurrence x a [] ≡ [] → (x ≡ Ok true → a ≡ [] → ⊥) → x ≡ Ok true → ⊥
chosen (Ok true) e n q = n refl e
chosen (Ok false) e n q = let z : ◌≡◌ {A = ℕ} 0 1 = cc in omega arith
chosen (Err why) e n q = let z : ◌≡◌ {A = ℕ} 0 1 = cc in omega arith

not_chosen : (x : Result Bool Refusal) (a : List ℕ) → (x ≡ Ok true → ⊥) → if_occurrence x a [] ≡ []
not_chosen (Ok true) a n = absurd (n refl)
not_chosen (Ok false) a n = refl
not_chosen (Err why) a n = refl

pub excerpt_empty : (f : Pattern) (t row : List ℕ) → (excerpt_of f t row ≡ []) ↔ (is_occurrence f t row ≡ Ok true → ⊥)
unfolding excerpt_of
excerpt_empty f t row = (
  λ e. chosen (is_occurrence f t row) e (λ y. excerpt_some f t row (hit f t row y)),
  λ n. not_chosen (is_occurrence f t row) _ n,
)
