-- The rounds over the slots: when no slot of the last round asks more, the row is the earliest occurrence, as if no sentence ended.
-- Assumes nothing.
use Prim.Native.Nat.{ℕ, ◌+◌, ◌-◌, ◌≤◌, ◌<◌}
use mathlib.Core.List.{List}
use mathlib.Core.Bool.{true, false, true≢false}
use mathlib.Core.Path.{◌≡◌, refl, sym, ◌∙◌}
use native.Mathlib.Decide.{ℕ_discrete, dec_lt}
use native.Mathlib.Omega.{arith}
use lib.ListN.{length, take, set}
use lib.Seq.{get_or-take, length-take-le}
use Rattle.pattern.specs.declared.Pattern.{Pattern}
use Rattle.matching.specs.Occurrence.{View, OccursIn, at}
use Rattle.matching.specs.Rows.{Before, NotAfter}
use Rattle.matching.specs.Steps.Bounds.{Next}
use Rattle.matching.proofs.Raising.{rising_same, stable, raised, placed}
use Rattle.matching.specs.Steps.Settling.{Ready, Visited, Placed, Never, Raised, Stable, Settled, Started, Answered, Spare, Answer}

-- the invariant of the rounds: the slots of the last `calm` visits are stable
pub record Calm (f : Pattern) (v : View) (p₀ p : List ℕ) (calm j : ℕ) : Type 0 where
  pub rising : Raised f v p₀ p
  pub slot : j < f.count
  pub within : calm ≤ f.count
  pub near : (k : ℕ) → k < j → j ≤ k + calm → Stable f v p k
  pub far : (k : ℕ) → k < f.count → j + f.count ≤ k + calm → Stable f v p k

module _ {f : Pattern} {v : View} where
  pub calm_begin : (p : List ℕ) → length p ≡ 16 → 1 ≤ f.count → Calm f v p p 0 0
  calm_begin p e h = record { rising = rising_same p e; slot = h; within = omega arith; near = λ k l _. absurd (omega arith); far = λ k l b. absurd (omega arith) }

  module _ {p₀ p : List ℕ} {calm j k r : ℕ} (S : Calm f v p₀ p calm j) (N : Next f.count j k) (W : Visited f v p j r) (h : r ≤ v.places) where
    pub calm_same : calm < f.count → r ≡ at p j → Calm f v p₀ p (calm + 1) k
    calm_same l e =
        let here = stable W e h in
        let one : (i : ℕ) → i ≡ j → Stable f v p i = λ i q. rw q here in
        record {
          rising = S.rising;
          slot = N.inside;
          within = omega arith;
          near = λ i a b. elim (ℕ_discrete i j) [
            | yes q ↦ one i q
            | no q ↦ elim (ℕ_discrete (j + 1) f.count) [
              | yes y ↦ absurd (omega (arith, N.round y))
              | no y ↦ let on = N.on (omega (arith, S.slot)) in S.near i (omega arith) (omega arith)
            ]
          ];
          far = λ i a b. elim (ℕ_discrete i j) [
            | yes q ↦ one i q
            | no q ↦ elim (ℕ_discrete (j + 1) f.count) [
              | yes y ↦ S.near i (omega arith) (omega (arith, N.round y))
              | no y ↦ S.far i a (omega (arith, N.on (omega (arith, S.slot))))
            ]
          ];
        }

    pub calm_raise : f.count ≤ 16 → Calm f v p₀ (set p j r) 0 k
    calm_raise few = record { rising = raised S.rising W S.slot few; slot = N.inside; within = omega arith; near = λ i a b. absurd (omega arith); far = λ i a b. absurd (omega arith) }

  pub all_calm : {p₀ p : List ℕ} {calm j : ℕ} → Calm f v p₀ p calm j → f.count ≤ calm → (k : ℕ) → k < f.count → Stable f v p k
  all_calm {j = j} S h k l = elim (dec_lt k j) [ yes a ↦ S.near k a (omega (arith, S.slot)) | no a ↦ S.far k l (omega arith) ]

-- where no sentence ends, a row at which nothing has to be raised is an occurrence
pub occurs : (f : Pattern) (v : View) (p : List ℕ) → ((x : ℕ) → v.ends x ≡ false) → 1 ≤ f.count → f.count ≤ length p
    → ((k : ℕ) → k < f.count → 1 ≤ at p k) → ((k : ℕ) → k < f.count → Stable f v p k) → OccursIn f v (take f.count p)
occurs f v p endless some few pos still =
    let m = f.count in
    let e : (k : ℕ) → k < m → at (take m p) k ≡ at p k = λ k h. get_or-take m p k 0 h in
    let last : m - 1 < m = omega arith in
    record {
      size = length-take-le m p few;
      word = λ k h. record { inside = omega (arith, e k h, pos k h, (still k h).inside); fit = rw (e k h) (still k h).fit };
      gap = λ k h.
          let i : k + 1 - 1 ≡ k = omega arith in
          let z : k < m = omega arith in
          let y : 0 < k + 1 = omega arith in
          omega (arith, e k z, e (k + 1) h, rw i at ((still (k + 1) h).bound.after y), (still k z).bound.before h);
      span = let y : m - 1 + 1 ≡ m = omega arith in omega (arith, e 0 some, e (m - 1) last, (still (m - 1) last).bound.ends y, (still 0 some).bound.starts refl);
      sentence = λ x a b. endless x;
    }

-- nothing is left to raise
pub settled : {f : Pattern} {v : View} {p₀ p : List ℕ} → ((x : ℕ) → v.ends x ≡ false) → Ready f v.places → Placed f.count p₀ → Raised f v p₀ p
    → ((k : ℕ) → k < f.count → Stable f v p k) → Settled f v p₀ (record { found = true; places = p })
settled {f = f} {v = v} {p = p} endless ok pos S still =
    record {
      occurs = λ _. occurs f v p endless ok.some (omega (arith, S.size, ok.few)) (placed S pos) still;
      size = λ _. S.size;
      above = λ _. S.above;
      rest = λ _. S.rest;
      first = λ _. S.sound;
      none = λ e. absurd (true≢false e);
    }

pub unsettled : {f : Pattern} {v : View} {p₀ : List ℕ} {a : Answer} → a.found ≡ false → Never f v p₀ → Settled f v p₀ a
unsettled {a = a} e h =
    let no_such : a.found ≡ true → ⊥ = λ g. true≢false (sym g ∙ e) in
    record { occurs = λ g. absurd (no_such g); size = λ g. absurd (no_such g); above = λ g. absurd (no_such g); rest = λ g. absurd (no_such g); first = λ g. absurd (no_such g); none = λ _. h }

-- the search's answer, from the row just past the marks and the earliest occurrence at or after it
module _ (f : Pattern) (v : View) {marks : List ℕ} {s : Answer} (S : Started f.count v.places marks s) where
  pub answered : {a : Answer} → Spare f.count marks → s.found ≡ true → Settled f v s.places a → Answered f v marks a
  unfolding Before NotAfter
  answered {a} clear e A =
      let m = f.count in
      let up : (q : List ℕ) → Before m marks q → NotAfter m s.places q = λ q P k h. omega (arith, S.past e k h, P k h) in
      record {
        some = λ g. record {
          hit = A.occurs g;
          past = λ k h. omega (arith, get_or-take m a.places k 0 h, A.above g k h, S.past e k h);
          least = λ q O P k h. omega (arith, get_or-take m a.places k 0 h, A.first g q O (up q P) k h);
        };
        size = A.size;
        rest = λ g k h. A.rest g k h ∙ S.rest e k h ∙ clear.rest k h;
        none = λ g q O P. A.none g q O (up q P);
      }

-- ---- the row just past the marks

-- the first j places are raised by one, the others as they were
pub record Starting (m : ℕ) (p₀ p : List ℕ) (j : ℕ) : Type 0 where
  pub within : j ≤ m
  pub size : length p ≡ length p₀
  pub past : (k : ℕ) → k < j → at p k ≡ at p₀ k + 1
  pub rest : (k : ℕ) → j ≤ k → at p k ≡ at p₀ k

module _ {m : ℕ} {p₀ p : List ℕ} {j : ℕ} (S : Starting m (take m p₀) p j) where
  -- a mark at the text's end leaves nothing past it
  pub started_none : {n : ℕ} {a : Answer} → j < m → n ≤ at p j → a.found ≡ false → Started m n p₀ a
  unfolding Before
  started_none {a = a} l h e =
      let no_such : a.found ≡ true → ⊥ = λ g. true≢false (sym g ∙ e) in
      record { past = λ g. absurd (no_such g); rest = λ g. absurd (no_such g); none = λ _ q past inside. omega (arith, S.rest j (omega arith), get_or-take m p₀ j 0 l, past j l, inside j l) }
