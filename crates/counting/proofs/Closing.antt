-- The table of horizons, filled from the text's end. Assumes nothing.
use Rattle.std.proofs.Common.{◌≡◌, ℕ, suc, ◌+◌, ◌-◌, ◌<◌, ◌≤◌, Bool, eqb, List, length, get_or, set, sym, refl, ap, ◌∙◌, arith, length-set, get_or-set_other, get_or-set_same}
use native.Mathlib.Decide.{ℕ_discrete}
use Rattle.basics.specs.Choice.{pick}
use Rattle.pattern.specs.declared.Pattern.{Pattern}
use Rattle.matching.specs.Occurrence.{plain, ends_at}
use Rattle.matching.specs.Spans.{next_end, horizon}
use Rattle.matching.proofs.Laws.Sentences.{next_end_is}
use Rattle.counting.specs.Steps.Sentences.{Horizons}

next_end_none : (ends : ℕ → Bool) (n p : ℕ) → n ≡ 0 → next_end ends n p ≡ p
unfolding next_end
next_end_none ends n p e = rw e

next_end_one : (ends : ℕ → Bool) (n k p q : ℕ) → n ≡ suc k → q ≡ suc p → next_end ends n p ≡ pick (ends q) q (next_end ends k q)
unfolding next_end
next_end_one ends n k p q e d = rw (e, d)

-- done from the index i on: `last` is the horizon of the place i
pub record Closing (t E₀ : List ℕ) (i last : ℕ) (E : List ℕ) : Type 0 where
  pub long : length E ≡ length E₀
  pub inside : i ≤ length t
  pub here : last ≡ next_end (ends_at t) (length t - i) i
  pub done : (k : ℕ) → i ≤ k → k < length t → get_or E k 0 ≡ next_end (ends_at t) (length t - (k + 1)) (k + 1)

pub closing_begin : (t E : List ℕ) → Closing t E (length t) (length t) E
closing_begin t E = record {
  long = refl;
  inside = omega arith;
  here = sym (next_end_none (ends_at t) (length t - length t) (length t) (omega arith));
  done = λ k a b. absurd (omega arith);
}

module _ {t E₀ : List ℕ} {i last : ℕ} {E : List ℕ} (s : Closing t E₀ i last E) where
  pub closing_last : last ≤ length t
  closing_last = omega (arith, s.here, s.inside, (next_end_is (ends_at t) (length t - i) i).within)

  pub closing_more : 0 < i → length t ≤ length E₀ → {next : ℕ} → next ≡ pick (eqb (get_or t (i - 1) 0) 0) (i - 1 + 1) last → Closing t E₀ (i - 1) next (set E (i - 1) last)
  closing_more pos room en =
      let l = s.inside in
      let place : i - 1 + 1 ≡ i = omega arith in
      let e = rw place at en in
      let z : i - 1 < length E = omega (arith, s.long) in
      record {
        long = length-set E (i - 1) last ∙ s.long;
        inside = omega arith;
        here = e ∙ ap (λ (x : ℕ). pick (ends_at t i) i x) s.here ∙ sym (next_end_one (ends_at t) (length t - (i - 1)) (length t - i) (i - 1) i (omega arith) (omega arith));
        done = λ k a b. elim (ℕ_discrete k (i - 1)) [
          | yes q ↦ let d : i - 1 + 1 ≡ i = omega arith in rw (q, d, get_or-set_same E (i - 1) last 0 z) s.here
          | no q ↦ get_or-set_other E (i - 1) k last 0 q ∙ s.done k (omega arith) b
        ];
      }

  pub closed : i ≤ 0 → length t ≤ length E₀ → (f : Pattern) → Horizons (plain f t) E
  unfolding horizon
  closed h room f = record { size = omega (arith, s.long); last = λ k l. s.done k (omega arith) l }
