-- A row of places that is raised until it is an occurrence. Assumes nothing.
use Prim.Native.Nat.{ℕ, zero, suc, ◌+◌, ◌-◌, ◌≤◌, ◌<◌, max}
use mathlib.Core.List.{List, [], ◌∷◌}
use mathlib.Core.Path.{◌≡◌, refl, ◌∙◌}
use native.Mathlib.Decide.{ℕ_discrete}
use native.Mathlib.Nat.{le_of_suc-le-suc, not-suc-le-zero}
use native.Mathlib.Omega.{arith}
use Rattle.std.proofs.Math.Nat.{le-max_left, le-max_right, max-le}
use lib.ListN.{length, set, length-set}
use lib.Seq.{get_or-set_same, get_or-set_other}
use Rattle.pattern.specs.declared.Pattern.{Pattern}
use Rattle.matching.specs.Occurrence.{View, OccursIn, at}
use Rattle.matching.specs.Rows.{NotAfter}
use Rattle.matching.specs.Steps.Bounds.{First, Least, Behind, Ahead}
use Rattle.matching.specs.Steps.Settling.{Ready, Bound, Visited, Placed, Never, slack, Raised, Stable}

-- the least place that both neighbours allow, and that is no smaller than the slot's own, is the least that the other slots allow
pub needed : {f : Pattern} {p : List ℕ} {j low high : ℕ} → Least (Behind f p j) low → Least (Ahead f p j) high → Least (Bound f p j) (max (max (at p j) low) high)
needed {f} {p} {j} {low} {high} L H =
    let r = max (max (at p j) low) high in
    let far : max (at p j) low ≤ r = le-max_left (max (at p j) low) high in
    let own : at p j ≤ r = omega (arith, far, le-max_left (at p j) low) in
    let past : low ≤ r = omega (arith, far, le-max_right (at p j) low) in
    let most : high ≤ r = le-max_right (max (at p j) low) high in
    record {
      holds = record {
        own = own;
        after = λ h. omega (arith, L.holds.after h, past);
        before = λ h. omega (arith, H.holds.before h, most);
        ends = λ h. omega (arith, H.holds.ends h, most);
        starts = λ h. omega (arith, L.holds.starts h, past);
      };
      least = λ x B. max-le (max-le B.own (L.least x (record { after = B.after; starts = B.starts }))) (H.least x (record { before = B.before; ends = B.ends }));
    }

-- the least place that the slots allow, and then the first that the slot fits
pub visited : {f : Pattern} {v : View} {p : List ℕ} {j n r : ℕ} → Least (Bound f p j) n → First (v.fits j) v.places n r → Visited f v p j r
visited {r = r} N F =
    let b = N.holds in
    record {
      bound = record { own = omega (arith, F.low); after = λ h. omega (arith, b.after h, F.low); before = λ h. omega (arith, b.before h, F.low); ends = λ h. omega (arith, b.ends h, F.low); starts = λ h. omega (arith, b.starts h, F.low) };
      hit = F.hit;
      least = λ x B g. let h : x < r → ⊥ = λ l. F.none x l (N.least x B) g in omega arith;
    }

-- what an occurrence after the row allows
pub allowed : {f : Pattern} {v : View} {q : List ℕ} → OccursIn f v q → (p : List ℕ) (j : ℕ) → j < f.count → NotAfter f.count p q → Bound f p j (at q j)
unfolding NotAfter
allowed {f = f} O p j l B =
    record {
      own = B j l;
      after = λ h. let e : j - 1 + 1 ≡ j = omega arith in let g : j - 1 + 1 < f.count = omega arith in omega (arith, rw e at (O.gap (j - 1) g), B (j - 1) (omega arith));
      before = λ h. omega (arith, O.gap j h, B (j + 1) h);
      ends = λ h. let e : f.count - 1 ≡ j = omega arith in omega (arith, rw e at O.span, B 0 (omega arith));
      starts = λ h. rw h (omega (arith, O.span, B (f.count - 1) (omega arith)));
    }

pub stable : {f : Pattern} {v : View} {p : List ℕ} {j r : ℕ} → Visited f v p j r → r ≡ at p j → r ≤ v.places → Stable f v p j
stable W e l = record { bound = rw e at W.bound; inside = omega arith; fit = rw e at (W.hit l) }

-- a store of what has C keeps C at every index
pub set_all : (C : ℕ → ℕ → Type 0) (m : ℕ) (p : List ℕ) (j v : ℕ) → j < length p → ((k : ℕ) → k < m → C k (at p k)) → C j v → (k : ℕ) → k < m → C k (at (set p j v) k)
set_all C m p j v l h c k g = go (ℕ_discrete k j)
  where
    go : Dec (k ≡ j) → C k (at (set p j v) k)
    go (yes e) = rw (e, get_or-set_same p j v 0 l) c
    go (no n) = rw (get_or-set_other p j k v 0 n) (h k g)

pub slack-set : (l : List ℕ) (j v : ℕ) → j < length l → at l j < v → v ≤ 20000 → slack (set l j v) < slack l
unfolding slack
slack-set [] j v h a b = absurd (not-suc-le-zero h)
slack-set (x ∷ xs) zero v h a b = omega arith
slack-set (x ∷ xs) (suc j) v h a b = omega (arith, slack-set xs j v (le_of_suc-le-suc h) a b)

module _ {f : Pattern} {v : View} where
  pub rising_same : (p : List ℕ) → length p ≡ 16 → Raised f v p p
  unfolding NotAfter
  rising_same p e = record { size = e; above = λ k _. omega arith; rest = λ k _. refl; sound = λ q _ B. B }

  pub placed : {p q : List ℕ} → Raised f v p q → Placed f.count p → Placed f.count q
  unfolding NotAfter
  placed A P k h = omega (arith, A.above k h, P k h)

  -- a place that no occurrence is before
  pub raised_at : {p₀ p : List ℕ} {j r : ℕ} → Raised f v p₀ p → j < f.count → f.count ≤ 16 → at p j ≤ r
      → ((q : List ℕ) → OccursIn f v q → NotAfter f.count p₀ q → r ≤ at q j) → Raised f v p₀ (set p j r)
  unfolding NotAfter
  raised_at {p₀} {p} {j} {r} S l few up beyond =
      let z : j < length p = omega (arith, S.size) in
      record {
        size = length-set p j r ∙ S.size;
        above = set_all (λ k x. at p₀ k ≤ x) f.count p j r z S.above (omega (arith, S.above j l));
        rest = λ k h. get_or-set_other p j k r 0 (λ e. omega arith) ∙ S.rest k h;
        sound = λ q O B. set_all (λ k x. x ≤ at q k) f.count p j r z (S.sound q O B) (beyond q O B);
      }

  module _ {p₀ p : List ℕ} {j r : ℕ} (S : Raised f v p₀ p) (W : Visited f v p j r) (l : j < f.count) where
    pub beyond : (q : List ℕ) → OccursIn f v q → NotAfter f.count p₀ q → r ≤ at q j
    beyond q O B = W.least (at q j) (allowed O p j l (S.sound q O B)) (O.word j l).fit

    pub none : v.places < r → Never f v p₀
    none h q O B = omega (arith, beyond q O B, (O.word j l).inside)

    pub raised : f.count ≤ 16 → Raised f v p₀ (set p j r)
    raised few = raised_at S l few W.bound.own beyond

    -- a place that is raised leaves less to raise
    pub less : Ready f v.places → r ≤ v.places → (r ≡ at p j → ⊥) → slack (set p j r) < slack p
    less ok h n =
        let z : j < length p = omega (arith, S.size, ok.few) in
        let up : at p j < r = omega (arith, W.bound.own) in
        slack-set p j r z up (omega (arith, ok.short))
