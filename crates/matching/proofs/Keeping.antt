-- A row that is raised to the ends of sentences until it keeps to one. Assumes nothing.
use Rattle.std.specs.Prelude.{Option, Some, None}
use Prim.Native.Nat.{ℕ, ◌+◌, ◌-◌, ◌≤◌, ◌<◌, max}
use Rattle.std.proofs.Math.Nat.{le-max_right, max-le}
use native.Mathlib.Decide.{dec_lt}
use native.Mathlib.Omega.{arith}
use mathlib.Core.Bool.{Bool, true, false, true≢false}
use mathlib.Core.List.{List}
use mathlib.Core.Path.{◌≡◌, refl, sym, ◌∙◌}
use lib.ListN.{length, set}
use lib.Seq.{get_or-take, get_or-set_same}
use Rattle.pattern.specs.declared.Pattern.{Pattern}
use Rattle.matching.specs.Occurrence.{View, Unbroken, SentenceIn, OccursIn, at}
use Rattle.matching.specs.Rows.{NotAfter}
use Rattle.matching.specs.Steps.Bounds.{LastEnd}
use Rattle.matching.specs.Steps.Settling.{Ready, loose, Raised, Settled, Answer}
use Rattle.matching.proofs.Raising.{rising_same, raised_at}
use Rattle.matching.proofs.Settling.{unsettled}

-- views with the same places that slots fit have the same occurrences, but for the sentence
carried : {f : Pattern} {v w : View} {q : List ℕ} → v.places ≡ w.places → v.fits ≡ w.fits → OccursIn f v q → SentenceIn f w q → OccursIn f w q
carried n e o u = record { size = o.size; word = λ j h. let W = o.word j h in record { inside = rw n at W.inside; fit = rw e at W.fit }; gap = o.gap; span = o.span; sentence = u }

module _ {f : Pattern} {v : View} where
  -- an occurrence is one as if no sentence ended, and such a one is an occurrence where it keeps to one sentence
  loosened : {q : List ℕ} → OccursIn f v q → OccursIn f (loose v) q
  loosened o = carried refl refl o (λ x a b. refl)

  tightened : {q : List ℕ} → OccursIn f (loose v) q → SentenceIn f v q → OccursIn f v q
  tightened o u = carried refl refl o u

pub settled-found : {f : Pattern} {v : View} {p q : List ℕ} {b : Bool} → b ≡ true → Settled f v p (record { found = b; places = q }) → Settled f v p (record { found = true; places = q })
settled-found e S = rw e at S

-- the invariant of the looks: no sentence ends past the first place and before `from`
pub record Keeping (f : Pattern) (v : View) (p₀ p : List ℕ) (from : ℕ) : Type 0 where
  pub rising : Raised f v p₀ p
  pub clear : Unbroken v.ends (at p 0) from

pub keeping_begin : {f : Pattern} {v : View} {p : List ℕ} {from : ℕ} → length p ≡ 16 → Unbroken v.ends (at p 0) from → Keeping f v p p from
keeping_begin {p = p} e u = record { rising = rising_same p e; clear = u }

module _ {f : Pattern} {v : View} {p₀ p : List ℕ} {from : ℕ} (K : Keeping f v p₀ p from) where
  -- no occurrence as if no sentence ended, so none
  pub unkept : {a b : Answer} → a.found ≡ false → Settled f (loose v) p a → b.found ≡ false → Settled f v p₀ b
  unkept e S d = unsettled d (λ q O B. S.none e q (loosened O) (K.rising.sound q O B))

  -- what was found as if no sentence ended is the first row, raised
  settled-raised : {q : List ℕ} → Settled f (loose v) p (record { found = true; places = q }) → Raised f v p₀ q
  unfolding NotAfter
  settled-raised S = record {
    size = S.size refl;
    above = λ k h. omega (arith, S.above refl k h, K.rising.above k h);
    rest = λ k h. S.rest refl k h ∙ K.rising.rest k h;
    sound = λ r O B. S.first refl r (loosened O) (K.rising.sound r O B);
  }

-- the last place of what was found is in the text
pub last_inside : {f : Pattern} {v : View} {p q : List ℕ} → Settled f v p (record { found = true; places = q }) → Ready f v.places → at q (f.count - 1) ≤ v.places
last_inside {f} {q = q} S ok =
    let h : f.count - 1 < f.count = omega (arith, ok.some) in
    omega (arith, get_or-take f.count q (f.count - 1) 0 h, ((S.occurs refl).word (f.count - 1) h).inside.1)

-- a look for a sentence end: q is the earliest as if no sentence ended, `to` its last place, and `end` the last sentence end inside it, or none
pub record Looked (f : Pattern) (v : View) (p₀ p : List ℕ) (from : ℕ) (q : List ℕ) (to : ℕ) (end : Option ℕ) : Type 0 where
  pub keeping : Keeping f v p₀ p from
  pub settled : Settled f (loose v) p (record { found = true; places = q })
  pub ready : Ready f v.places
  pub last_is : to ≡ at q (f.count - 1)
  -- where the look goes back to
  pub end_is : LastEnd v.ends (max from (at q 0 + 1)) to end

module _ {f : Pattern} {v : View} {p₀ p : List ℕ} {from : ℕ} {q : List ℕ} {to : ℕ} {end : Option ℕ} (L : Looked f v p₀ p from q to end) where
  abbrev S : Settled f (loose v) p (record { found = true; places = q })
  S = L.settled

  abbrev ok : Ready f v.places
  ok = L.ready

  raised : Raised f v p₀ q
  raised = settled-raised L.keeping S

  first_up : at p 0 ≤ at q 0
  unfolding NotAfter
  first_up = S.above refl 0 ok.some

  -- no sentence ends inside the row
  pub kept : end ≡ None → Settled f v p₀ (record { found = true; places = q })
  kept e =
      let h : f.count - 1 < f.count = omega (arith, ok.some) in
      let back = max from (at q 0 + 1) in
      let inside : SentenceIn f v q = λ x a b. elim (dec_lt x back) [
        | yes l ↦ L.keeping.clear x (omega (arith, first_up)) (let g : from ≤ x → ⊥ = λ g. omega (arith, max-le {a = from} {b = at q 0 + 1} {k = x} g (omega arith)) in omega arith)
        | no l ↦ L.end_is.none e x (omega arith) (omega (arith, L.last_is))
      ] in
      record {
        occurs = λ _. tightened (S.occurs refl) (rw (get_or-take f.count q 0 0 ok.some, get_or-take f.count q (f.count - 1) 0 h) inside);
        size = S.size;
        above = λ _. raised.above;
        rest = λ _. raised.rest;
        first = λ _. raised.sound;
        none = λ e. absurd (true≢false e);
      }

  -- one does, and no occurrence starts before it
  module _ (e : ℕ) (is : end ≡ Some e) where
    end_past : at q 0 < e
    end_past = omega (arith, L.end_is.some e is, le-max_right from (at q 0 + 1))

    end_inside : e < v.places
    end_inside = omega (arith, L.end_is.some e is, L.last_is, last_inside S ok)

    end_before : (r : List ℕ) → OccursIn f v r → NotAfter f.count p₀ r → e ≤ at r 0
    unfolding NotAfter
    end_before r O B = elim (dec_lt (at r 0) e) [
      | yes l ↦ absurd (true≢false (sym (L.end_is.some e is).2 ∙ O.sentence e l (omega (arith, L.end_is.some e is, L.last_is, raised.sound r O B (f.count - 1) (omega (arith, ok.some))))))
      | no l ↦ omega arith
    ]

    pub keeping_more : Keeping f v p₀ (set q 0 e) to
    keeping_more =
        let z : 0 < length q = omega (arith, S.size refl) in
        record {
          rising = raised_at raised ok.some ok.few (omega (arith, end_past)) end_before;
          clear = λ x a b. L.end_is.after e is x (omega (arith, get_or-set_same q 0 e 0 z)) b;
        }

    -- the first place is raised
    pub keeping_less : (20001 - at (set q 0 e) 0 < 20001 - at p 0) × (e ≤ 20000)
    keeping_less =
        let z : 0 < length q = omega (arith, S.size refl) in
        (omega (arith, get_or-set_same q 0 e 0 z, first_up, end_past, end_inside, ok.short), omega (arith, end_inside, ok.short))
