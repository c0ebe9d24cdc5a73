-- What holds of the answer (document 02, Job 5): it is accepted, its occurrences are those of both patterns, it is refused with 17 to 19 as
-- these mean, a pattern merges with itself into one that agrees with it, and either order gives the same answer.
use Rattle.std.specs.Prelude.{◌≡◌, refl, ◌↔◌, List, ℕ, Ok, Err}
use Rattle.std.proofs.Common.{sym, ◌∙◌}
use Rattle.std.proofs.Math.Path.{ap}
use Rattle.pattern.specs.declared.Pattern.{Pattern}
use Rattle.pattern.specs.declared.refusal.Refusal.{Refusal}
use Rattle.pattern.specs.declared.refusal.Refusal.TheVariants.{SlotsDiffer}
use Rattle.pattern.specs.Patterns.{empty_pattern}
use Rattle.pattern.specs.Agree.{Agree}
use Rattle.pattern.specs.Typed.{Typed}
use Rattle.pattern.specs.Accepted.{Accepted}
use Rattle.matching.specs.Occurrence.{Occurs}
use Rattle.merging.specs.Merging.{merged_pattern, merge_verdict, answered, merged, verdict_of, pattern_of}
use Rattle.merging.specs.Sharing.{Judged}
use Rattle.merging.specs.Laws.Passing.{Passed, merge_passed}
use Rattle.merging.specs.Laws.Accepting.{merged-accepted}
use Rattle.merging.specs.Laws.Occurring.{occurs_both}
use Rattle.merging.specs.Laws.Judging.{merge_judged, slots_differ}
use Rattle.merging.specs.Laws.Itself.{self-accepted, self_agree}
use Rattle.merging.specs.Laws.Swapped.{verdict_comm, pattern_comm}
use Rattle.pattern.specs.Tests.{Verdict}

-- the verdict is that of the tests
told : (v : Verdict) (m : Pattern) → verdict_of (answered v m) ≡ v
told (Ok tt) m = refl
told (Err why) m = refl

pub verdict-told : (f g : Pattern) → verdict_of (merged f g) ≡ merge_verdict f g
unfolding merged
verdict-told f g = told (merge_verdict f g) (merged_pattern f g)

module _ (f g : Pattern) {m : Pattern} (fine : merged f g ≡ Ok m) where
  verdict : merge_verdict f g ≡ Ok tt
  verdict = sym (verdict-told f g) ∙ ap verdict_of fine

  pattern : m ≡ merged_pattern f g
  unfolding merged
  pattern = sym (ap pattern_of fine) ∙ ap (λ (v : Verdict). pattern_of (answered v (merged_pattern f g))) verdict

  -- nothing refused, both patterns are accepted, and what else the tests ask holds
  pub answer_passed : Passed f g
  answer_passed = (merge_passed f g).0 verdict

  pub answer-accepted : Accepted m
  answer-accepted = rw pattern (merged-accepted answer_passed)

  pub answer-occurs : (t r : List ℕ) → Occurs m t r ↔ (Occurs f t r × Occurs g t r)
  answer-occurs t r = rw pattern (occurs_both answer_passed t r)

-- a refusal gives a new pattern
pub answer_new : (f g : Pattern) {why : Refusal} → merged f g ≡ Err why → pattern_of (merged f g) ≡ empty_pattern
answer_new f g e = ap pattern_of e

-- what is refused of two accepted patterns: 17 where they have not equally many slots, else 18 and 19 as `Judged` says
pub answer_differs : {f g : Pattern} → Accepted f → Accepted g → (f.count ≡ g.count → ⊥) → merged f g ≡ Err SlotsDiffer
unfolding merged
answer_differs {f} {g} F G n = ap (λ (v : Verdict). answered v (merged_pattern f g)) (slots_differ F G n)

pub answer-judged : {f g : Pattern} → Accepted f → Accepted g → Typed f → Typed g → f.count ≡ g.count → Judged f g (verdict_of (merged f g))
answer-judged {f} {g} F G T W e = rw (verdict-told f g) (merge_judged F G T W e)

-- with itself: not refused, and what it says stays
pub answer_itself : {f : Pattern} → Accepted f → Typed f → (m : Pattern) × (merged f f ≡ Ok m) × Agree m f
unfolding merged
answer_itself {f} F T = (merged_pattern f f, ap (λ (v : Verdict). answered v (merged_pattern f f)) (self-accepted F T), self_agree F T)

-- in either order: the same refusal, or the same pattern, entry by entry
pub answer_swapped : {f g : Pattern} → Accepted f → Accepted g → merged f g ≡ merged g f
unfolding merged
answer_swapped {f} {g} F G = by_verdict (merge_verdict f g) refl
  where
    by_verdict : (v : Verdict) → merge_verdict f g ≡ v → answered v (merged_pattern f g) ≡ answered (merge_verdict g f) (merged_pattern g f)
    by_verdict (Ok tt) e = rw (sym (verdict_comm F G) ∙ e, pattern_comm F G ((merge_passed f g).0 e).count)
    by_verdict (Err why) e = rw (sym (verdict_comm F G) ∙ e)
