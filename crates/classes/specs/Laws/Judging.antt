-- All bytes have exactly one judgement: 20 and 21 are given exactly where their rows apply, and to no expression within the limits.
use Rattle.std.specs.Prelude.{ℕ, ◌≤◌, ◌<◌, ◌≡◌, refl, ◌↔◌, ◌⊎◌, Bool, true, false, List, length, ltb}
use Rattle.std.proofs.Common.{sym, ◌∙◌, ap, inl, inr, arith, ltb-true, ltb-false}
use Rattle.classes.specs.Trees.{Tree}
use Rattle.classes.specs.Grammar.{Grammar, alternative}
use Rattle.classes.specs.Judgements.{Judgement, not_expression, too_deep, read_as, Ungrammatical, Judged, too_long, ungrammatical, nested, accepted}
use Rattle.classes.specs.Steps.Reader.{Reading, wrong, expression, reading}
use Rattle.classes.specs.Laws.Complete.{complete, unambiguous}
use Rattle.classes.specs.Laws.Sound.{sound}

-- the reader finds exactly the expressions of the grammar
pub exactly : {s : List ℕ} {t : Tree} {d : ℕ} → (reading s ≡ expression t d) ↔ Grammar alternative s t d
exactly = (sound, complete)

-- what the reader cannot read is not of the grammar
pub unread : {s : List ℕ} → reading s ≡ wrong → Ungrammatical s
unread e t d g =
    let f = sym e ∙ complete g in
    let z : ◌≡◌ {A = ℕ} 0 1 = cc in
    omega arith

-- ---- there is a judgement

judge_short : (s : List ℕ) → length s ≤ 200 → (r : Reading) → reading s ≡ r → (j : Judgement) × Judged s j
judge_short s h wrong e = (not_expression, ungrammatical (unread e))
judge_short s h (expression t d) e = go (ltb 8 d) refl
  where
    go : (b : Bool) → ltb 8 d ≡ b → (j : Judgement) × Judged s j
    go true q = (too_deep, nested h (sound e) (ltb-true 8 d q))
    go false q = (read_as t, accepted h (sound e) (ltb-false 8 d q))

pub judgement_of : (s : List ℕ) → (j : Judgement) × Judged s j
judgement_of s = go (ltb 200 (length s)) refl
  where
    go : (b : Bool) → ltb 200 (length s) ≡ b → (j : Judgement) × Judged s j
    go true q = (not_expression, too_long (ltb-true 200 (length s) q))
    go false q = judge_short s (ltb-false 200 (length s) q) (reading s) refl

-- ---- and no other

pub judged_once : {s : List ℕ} {j k : Judgement} → Judged s j → Judged s k → j ≡ k
judged_once (too_long a) (too_long b) = refl
judged_once (too_long a) (ungrammatical b) = refl
judged_once (too_long a) (nested h g l) = absurd (omega arith)
judged_once (too_long a) (accepted h g l) = absurd (omega arith)
judged_once (ungrammatical a) (too_long b) = refl
judged_once (ungrammatical a) (ungrammatical b) = refl
judged_once (ungrammatical a) (nested h g l) = absurd (a _ _ g)
judged_once (ungrammatical a) (accepted h g l) = absurd (a _ _ g)
judged_once (nested h g l) (too_long b) = absurd (omega arith)
judged_once (nested h g l) (ungrammatical b) = absurd (b _ _ g)
judged_once (nested h g l) (nested h' g' l') = refl
judged_once (nested h g l) (accepted h' g' l') = absurd (omega (arith, (unambiguous g g').1))
judged_once (accepted h g l) (too_long b) = absurd (omega arith)
judged_once (accepted h g l) (ungrammatical b) = absurd (b _ _ g)
judged_once (accepted h g l) (nested h' g' l') = absurd (omega (arith, (unambiguous g g').1))
judged_once (accepted h g l) (accepted h' g' l') = ap read_as (unambiguous g g').0

-- an expression of the grammar that is at most 200 bytes long and at most 8 deep has its reading as its judgement
pub not_refused : {s : List ℕ} {t : Tree} {d : ℕ} {j : Judgement} → Grammar alternative s t d → length s ≤ 200 → d ≤ 8 → Judged s j → j ≡ read_as t
not_refused g h l q = judged_once q (accepted h g l)

-- ---- where each is given

-- 20: not of the grammar, or too long
pub judged_20 : {s : List ℕ} → Judged s not_expression ↔ ((200 < length s) ⊎ Ungrammatical s)
judged_20 = (λ j. where_20 j, λ h. is_20 h)
  where
    where_20 : {s : List ℕ} → Judged s not_expression → (200 < length s) ⊎ Ungrammatical s
    where_20 (too_long h) = inl h
    where_20 (ungrammatical h) = inr h

    is_20 : {s : List ℕ} → (200 < length s) ⊎ Ungrammatical s → Judged s not_expression
    is_20 (inl h) = too_long h
    is_20 (inr h) = ungrammatical h

-- of the grammar, not too long, and deeper than 8
pub record Deep (s : List ℕ) : Type 0 where
  pub within : length s ≤ 200
  pub tree : Tree
  pub depth : ℕ
  pub grammatical : Grammar alternative s tree depth
  pub deep : 8 < depth

-- 21
pub judged_21 : {s : List ℕ} → Judged s too_deep ↔ Deep s
judged_21 = (λ j. where_21 j, λ h. nested h.within h.grammatical h.deep)
  where
    where_21 : {s : List ℕ} → Judged s too_deep → Deep s
    where_21 (nested {t = t} {d = d} h g l) = record { within = h; tree = t; depth = d; grammatical = g; deep = l }
