-- The turned pattern faces the pattern in the text read from its end, and is as ready for a search.
use Rattle.std.specs.Prelude.{ℕ, ◌-◌, true, List, refl, eqb}
use Rattle.std.proofs.Common.{arith, ap, ◌∙◌}
use Rattle.pattern.specs.declared.Pattern.{Pattern}
use Rattle.pattern.specs.Patterns.{takes, slot_at}
use Rattle.matching.specs.Occurrence.{plain}
use Rattle.matching.specs.Steps.Settling.{Ready}
use Rattle.matching.specs.Steps.Turning.{viewed, Turned}
use Rattle.basics.specs.Laws.Collections.{get_d_reverse}
use Rattle.matching.proofs.Laws.Mirror.{Facing}

pub turned_facing : {f g : Pattern} → Turned f g → (t : List ℕ) → Facing f (plain f t) g (viewed true g t)
turned_facing {f} {g} T t = record {
  count = T.count;
  least = T.least;
  most = T.most;
  low = λ i j e h k. (T.slot j (omega arith)).low i e k;
  high = λ i j e h k. (T.slot j (omega arith)).high i e k;
  size = refl;
  fits = λ i j e p q d h k. (T.slot j (omega arith)).words i e _ ∙ ap (takes (slot_at f i)) (get_d_reverse t 0 (q - 1) (p - 1) (omega arith));
  ends = λ p q d h k. ap (λ (w : ℕ). eqb w 0) (get_d_reverse t 0 (q - 1) (p - 1) (omega arith));
}

pub turned-ready : {f g : Pattern} {n : ℕ} → Turned f g → Ready f n → Ready g n
turned-ready T A = record {
  some = omega (arith, T.count, A.some);
  few = omega (arith, T.count, A.few);
  least = omega (arith, T.least, A.least);
  short = A.short;
}
