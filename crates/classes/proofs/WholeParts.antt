-- What the part that bytes start with says of all of them. Assumes nothing.
use Rattle.std.proofs.Common.{◌≡◌, ℕ, ◌+◌, ◌<◌, ◌≤◌, Bool, true, false, eqb, ltb, List, ◌∷◌, length, get_or, drop, refl, ◌∙◌, arith, ltb-false, ltb-true, ne_eqb, leb-false, leb-true, Option, Some, None, Ok, Err}
use Rattle.basics.specs.Choice.{pick}
use Rattle.pattern.specs.declared.refusal.Refusal.TheVariants.{NotExpression, TooDeep}
use Rattle.classes.specs.Trees.{Tree}
use Rattle.classes.specs.Judgements.{too_long, ungrammatical, nested, accepted}
use Rattle.classes.specs.Steps.Reader.{nothing, whole, has, stuck, step, wrong, expression, ending, reading}
use Rattle.classes.specs.Steps.Parts.{operand, AlternativeAt, AlternativeRead, alternative_at, no_alternative}
use Rattle.classes.specs.Steps.Expressions.{whole_part, Judges, is_wrong, is_deep, is_met}
use Rattle.classes.specs.Laws.Sound.{sound}
use Rattle.classes.specs.Laws.Judging.{unread}
use Rattle.classes.specs.declared.reader.Part.{Part}
use Rattle.classes.proofs.ReaderSteps.{next, last, stays, starts_not}

-- ---- all bytes are read, or some are left

no_more : (b : ℕ) (s : List ℕ) (t : Tree) (d : ℕ) → (b ≡ 38 → ⊥) → (b ≡ 124 → ⊥) → ending (b ∷ s) (has nothing t d whole) ≡ wrong
unfolding ending step
no_more b s t d h k = simp (ne_eqb b 38 h, ne_eqb b 124 k) (go (eqb b 41))
  where
    go : (x : Bool) → ending s (pick x stuck stuck) ≡ wrong
    go true = stays s
    go false = stays s

module _ {s : List ℕ} {room : ℕ} {p : Part} (r : AlternativeAt s 0 room p) where
  all_read : length s ≤ p.end → reading s ≡ expression r.tree r.depth
  unfolding ending
  all_read h = r.found whole ∙ last s p.end (has nothing r.tree r.depth whole) h

  some_left : operand s (Some p) 124 ≡ None → p.end < length s → reading s ≡ wrong
  some_left e h =
      r.found whole
      ∙ next s p.end (get_or s p.end 0) (has nothing r.tree r.depth whole) h refl
      ∙ no_more (get_or s p.end 0) (drop (p.end + 1) s) r.tree r.depth r.ends (starts_not s p.end 124 (omega arith) e)

-- ---- the judgement

judges_at : {s : List ℕ} {p : Part} → AlternativeAt s 0 8 p → operand s (Some p) 124 ≡ None → length s ≤ 200 → (x : Bool) → ltb p.end (length s) ≡ x → (f : Bool) → p.fits ≡ f
    → Judges s (pick x (Err NotExpression) (pick f (Ok p.set) (Err TooDeep)))
judges_at {s = s} {p = p} r e h true q f y = is_wrong (ungrammatical (unread (some_left r e (ltb-true p.end (length s) q))))
judges_at {s = s} {p = p} r e h false q true y = is_met (accepted h (sound (all_read r (ltb-false p.end (length s) q))) (leb-true r.depth 8 (r.fits ∙ y))) r.value
judges_at {s = s} {p = p} r e h false q false y = is_deep (nested h (sound (all_read r (ltb-false p.end (length s) q))) (leb-false r.depth 8 (r.fits ∙ y)))

pub judges : {s : List ℕ} {p : Option Part} → AlternativeRead s 0 8 p → operand s p 124 ≡ None → length s ≤ 200 → Judges s (whole_part s p)
judges {s = s} (alternative_at {p = p} r) e h = judges_at r e h (ltb p.end (length s)) refl p.fits refl
judges (no_alternative r) e h = is_wrong (ungrammatical (unread (r whole)))

pub too_many : {s : List ℕ} → 200 < length s → Judges s (Err NotExpression)
too_many h = is_wrong (too_long h)

pub ruleset judgements = (too_many, judges)
