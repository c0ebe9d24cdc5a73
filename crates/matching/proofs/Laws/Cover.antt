-- Two ways to part the occurrences by their first places.
use Prim.Native.Nat.{ℕ, zero, suc, ◌+◌, ◌-◌, ◌≤◌, ◌<◌, min}
use native.Mathlib.Omega.{arith}
use Rattle.std.specs.Prelude.{◌≡◌, true, List, length, ltb}
use Rattle.std.proofs.Math.Bool.{and-eq-true_iff}
use Rattle.std.proofs.Common.{ltb-true, lt-ltb}
use Rattle.pattern.specs.declared.Pattern.{Pattern}
use Rattle.matching.specs.Occurrence.{View, Span, SentenceIn, OccursIn, at}
use Rattle.pattern.specs.Patterns.{slot_at}
use Rattle.matching.specs.Spans.{distance, near, far, width, horizon, limit, least}
use Rattle.matching.specs.Branches.{stands, ways}
use Rattle.matching.proofs.Laws.Branches.{Part, part-size, part-stands, part-gap, part_last, part_of, Covers, tree, forest, occurrences-forest, count-forest, starting-tree, count-starting, count-places}
use Rattle.basics.specs.Sums.{total}
use Rattle.matching.proofs.Laws.Rows.{occurs_between}
use Rattle.matching.proofs.Laws.Sentences.{horizon_past, horizon_inside, horizon-unbroken, horizon-reached}
use Rattle.matching.specs.Occurrences.{occurrences_in, starting_in}

module _ (f : Pattern) where
  -- the gaps of a row, slot by slot
  abbrev pub Gaps : List ℕ → ℕ → Type 0
  Gaps r k = (i : ℕ) → i < k → (at r i + (slot_at f (suc i)).low + 1 ≤ at r (suc i)) × (at r (suc i) ≤ at r i + (slot_at f (suc i)).high + 1)

  gaps_near : (r : List ℕ) (k : ℕ) → Gaps r k → (i : ℕ) → i ≤ k → at r 0 + near f i ≤ at r i
  unfolding distance
  gaps_near r k g zero h = omega arith
  gaps_near r k g (suc i) h = omega (arith, gaps_near r k g i (omega arith), g i (omega arith))

  gaps-far : (r : List ℕ) (k : ℕ) → Gaps r k → (i : ℕ) → i ≤ k → at r i ≤ at r 0 + far f i
  unfolding distance
  gaps-far r k g zero h = omega arith
  gaps-far r k g (suc i) h = omega (arith, gaps-far r k g i (omega arith), g i (omega arith))

  module _ (v : View) (some : 1 ≤ f.count) where
    part-gaps : {stop : ℕ → ℕ} {from : ℕ} {r : List ℕ} → Part f v stop from (f.count - 1) 0 r → Gaps r (f.count - 1)
    part-gaps {stop} {from} q i h = let e : 0 + i + 1 ≡ suc i = omega arith in rw e at (part-gap f v stop from q i h)

    part_below : {stop : ℕ → ℕ} {from : ℕ} {r : List ℕ} → Part f v stop from (f.count - 1) 0 r → (i : ℕ) → i ≤ f.count - 1 → (at r i < stop i) × (v.fits i (at r i) ≡ true)
    unfolding stands
    part_below {stop} {from} {r} q i h =
        let e : 0 + i ≡ i = omega arith in
        let b = (and-eq-true_iff (ltb (at r i) (stop i)) (v.fits i (at r i))).0 (rw e at (part-stands f v stop from q i h)) in
        (ltb-true _ _ b.0, b.1)

    -- an occurrence, of the stop and the least last place
    into : (stop : ℕ → ℕ) (from : ℕ) (r : List ℕ) → OccursIn f v r → ((i : ℕ) → i ≤ f.count - 1 → at r i < stop i) → from ≤ at r (f.count - 1)
        → Part f v stop from (f.count - 1) 0 r × (1 ≤ at r 0) × (at r 0 ≤ v.places)
    unfolding stands
    into stop from r o below last = (
      part_of f v stop from (f.count - 1) 0 r (omega (arith, o.size))
          (λ i h. let e : 0 + i ≡ i = omega arith in
          rw e ((and-eq-true_iff (ltb (at r i) (stop i)) (v.fits i (at r i))).1 (lt-ltb _ _ (below i h), (o.word i (omega arith)).fit)))
          (λ i h. let e : 0 + i + 1 ≡ i + 1 = omega arith in let d : suc i ≡ i + 1 = omega arith in rw (e, d) (o.gap i (omega arith)))
          last,
      (o.word 0 (omega arith)).inside.0,
      (o.word 0 (omega arith)).inside.1,
    )

    occurs-gaps : {r : List ℕ} → OccursIn f v r → Gaps r (f.count - 1)
    occurs-gaps o i h = let d : suc i ≡ i + 1 = omega arith in rw d (o.gap i (omega arith))

    -- it stands no further than the horizon of its first place
    occurs-horizon : {r : List ℕ} → OccursIn f v r → (i : ℕ) → i ≤ f.count - 1 → at r i ≤ horizon v (at r 0)
    occurs-horizon o i h =
        let last = horizon-reached v (o.word 0 some).inside.1 (o.word (f.count - 1) (omega arith)).inside.1 o.sentence in
        omega (arith, occurs_between o i (omega arith))

    back : {stop : ℕ → ℕ} {from : ℕ} (r : List ℕ) → Part f v stop from (f.count - 1) 0 r → 1 ≤ at r 0 → ((i : ℕ) → stop i ≤ v.places + 1)
        → Span f r → SentenceIn f v r → OccursIn f v r
    back {stop} {from} r q one short span sentence =
        let g = part-gaps q in
        let w = part_below q in
        record {
          size = omega (arith, part-size f v stop from q);
          word = λ j h. record {
            inside = (omega (arith, gaps_near r (f.count - 1) g j (omega arith)), omega (arith, (w j (omega arith)).0, short j));
            fit = (w j (omega arith)).1;
          };
          gap = λ j h. let e : j + 1 ≡ suc j = omega arith in rw e (g j (omega arith));
          span = span;
          sentence = sentence;
        }

    -- any pattern: each first place with its own stop
    pub covers_each : 1 ≤ f.least → Covers f v (limit f v) (least f)
    unfolding width limit least
    covers_each h = record {
      into = λ r o. let g = occurs-gaps o in let s = o.span in
          into (limit f v (at r 0)) (least f (at r 0)) r o
          (λ i l. omega (arith, occurs-horizon o i l, occurs_between o i (omega arith), gaps-far r (f.count - 1) g (f.count - 1) (omega arith), gaps-far r (f.count - 1) g i l))
          (omega arith);
      back = λ r q one inside.
          let last = part_last f v (limit f v (at r 0)) (least f (at r 0)) q in
          let below = (part_below q (f.count - 1) (omega arith)).0 in
          let start = horizon_past v inside in
          let end = horizon_inside v inside in
          back r q one (λ i. omega arith) (omega arith, omega arith) (horizon-unbroken v inside (omega arith));
    }

    -- a pattern whose span limits say nothing: the sentence's end alone stops it
    pub covers_all : f.least ≤ near f (f.count - 1) + 1 → min (far f (f.count - 1) + 1) v.places ≤ f.most → Covers f v (λ p j. horizon v p + 1) (λ p. 0)
    covers_all l m = record {
      into = λ r o. into (λ j. horizon v (at r 0) + 1) 0 r o (λ i h. omega (arith, occurs-horizon o i h)) (omega arith);
      back = λ r q one inside. let g = part-gaps q in
          let end = horizon_inside v inside in
          let below = (part_below q (f.count - 1) (omega arith)).0 in
          back r q one (λ i. omega arith)
          (omega (arith, gaps_near r (f.count - 1) g (f.count - 1) (omega arith)), omega (arith, gaps-far r (f.count - 1) g (f.count - 1) (omega arith)))
          (horizon-unbroken v inside (omega arith));
    }

    -- ---- all occurrences, and how many start at each place

    -- every occurrence, depth first: this computes
    pub occurrences_each : 1 ≤ f.least → occurrences_in f v ≡ forest f v (limit f v) (least f)
    occurrences_each h = occurrences-forest f v (limit f v) (least f) (covers_each h)

    pub tally_each : 1 ≤ f.least → length (occurrences_in f v) ≡ total v.places (λ p. ways f v (limit f v p) (least f p) (f.count - 1) 0 p) 1
    tally_each h = count-forest f v (limit f v) (least f) (covers_each h)

    pub tally-places : 1 ≤ f.least → length (occurrences_in f v) ≡ total v.places (λ p. length (starting_in f v p)) 1
    tally-places h = count-places f v (limit f v) (least f) (covers_each h)

    module _ (p : ℕ) (one : 1 ≤ p) (inside : p ≤ v.places) where
      pub starting_each : 1 ≤ f.least → starting_in f v p ≡ tree f v (limit f v) (least f) p
      starting_each h = starting-tree f v (limit f v) (least f) (covers_each h) p one inside

      pub starting_all : f.least ≤ near f (f.count - 1) + 1 → min (far f (f.count - 1) + 1) v.places ≤ f.most
          → starting_in f v p ≡ tree f v (λ p j. horizon v p + 1) (λ p. 0) p
      starting_all l m = starting-tree f v (λ p j. horizon v p + 1) (λ p. 0) (covers_all l m) p one inside

      pub count_each : 1 ≤ f.least → length (starting_in f v p) ≡ ways f v (limit f v p) (least f p) (f.count - 1) 0 p
      count_each h = count-starting f v (limit f v) (least f) (covers_each h) p one inside
