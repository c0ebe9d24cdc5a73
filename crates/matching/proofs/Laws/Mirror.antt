-- A pattern and a view read from the end. What is nearest there is nearest from the end here, so that nothing is proved twice.
use Rattle.std.specs.Prelude.{ℕ, ◌+◌, ◌-◌, ◌≤◌, ◌<◌, ◌≡◌, refl, Bool, true, false, List, map, reverse, length}
use native.Mathlib.Omega.{arith}
use Rattle.std.proofs.Common.{sym, ap, ◌∙◌}
use Rattle.std.proofs.lemmas.List.{length-map, length-reverse}
use Rattle.pattern.specs.declared.Pattern.{Pattern}
use Rattle.pattern.specs.Patterns.{slot_at}
use Rattle.matching.specs.Occurrence.{View, OccursIn, at}
use Rattle.matching.specs.Rows.{level, Before, NotAfter, After, NotBefore}
use Rattle.matching.specs.Steps.Turning.{seen, flip}
use Rattle.basics.specs.Laws.Collections.{get_d_reverse, map_at}
use Rattle.matching.proofs.Laws.Rows.{at_level}
use Rattle.matching.specs.Searches.{Nearest}
use Rattle.matching.proofs.Laws.Greedy.{Greedy, done, next, greedy_from}
use Rattle.matching.proofs.Laws.Extremes.{FrontIn, BackIn}

pub length_seen : (b : Bool) (t : List ℕ) → length (seen b t) ≡ length t
length_seen true t = length-reverse t
length_seen false t = refl

pub length-flip : (n : ℕ) (r : List ℕ) → length (flip n r) ≡ length r
unfolding flip
length-flip n r = length-map (reverse r) (λ p. n + 1 - p) ∙ length-reverse r

-- the row b is the row a read from the end, slot by slot
pub record Opposite (m n : ℕ) (a b : List ℕ) : Type 0 where
  pub turn : (i j : ℕ) → i + j + 1 ≡ m → at b j ≡ n + 1 - at a i

pub flip-opposite : (n : ℕ) (r : List ℕ) → Opposite (length r) n r (flip n r)
unfolding flip
flip-opposite n r = record {
  turn = λ i j e. map_at (λ p. n + 1 - p) (reverse r) 0 0 j (omega (arith, length-reverse r)) ∙ ap (λ (x : ℕ). n + 1 - x) (get_d_reverse r 0 i j e);
}

-- the pattern g is f with its slots in reverse, each with the gap after it, and the view u is v from its end
pub record Facing (f : Pattern) (v : View) (g : Pattern) (u : View) : Type 0 where
  pub count : g.count ≡ f.count
  pub least : g.least ≡ f.least
  pub most : g.most ≡ f.most
  pub low : (i j : ℕ) → i + j ≡ f.count → 0 < i → 0 < j → (slot_at g j).low ≡ (slot_at f i).low
  pub high : (i j : ℕ) → i + j ≡ f.count → 0 < i → 0 < j → (slot_at g j).high ≡ (slot_at f i).high
  pub size : u.places ≡ v.places
  pub fits : (i j : ℕ) → i + j + 1 ≡ f.count → (p q : ℕ) → p + q ≡ v.places + 1 → 1 ≤ p → 1 ≤ q → u.fits j p ≡ v.fits i q
  pub ends : (p q : ℕ) → p + q ≡ v.places + 1 → 1 ≤ p → 1 ≤ q → u.ends p ≡ v.ends q

module _ {f : Pattern} {v : View} {g : Pattern} {u : View} (F : Facing f v g u) where
  pub facing_back : Facing g u f v
  facing_back = record {
    count = sym F.count;
    least = sym F.least;
    most = sym F.most;
    low = λ i j e h k. sym (F.low j i (omega (arith, F.count)) k h);
    high = λ i j e h k. sym (F.high j i (omega (arith, F.count)) k h);
    size = sym F.size;
    fits = λ i j e p q d h k. sym (F.fits j i (omega (arith, F.count)) q p (omega (arith, F.size)) k h);
    ends = λ p q d h k. sym (F.ends q p (omega (arith, F.size)) k h);
  }

  -- what occurs here occurs there
  module _ {r : List ℕ} (O : OccursIn f v r) where
    abbrev m : ℕ
    m = f.count

    abbrev n : ℕ
    n = v.places

    abbrev s : List ℕ
    s = flip n r

    turned : (i j : ℕ) → i + j + 1 ≡ m → at s j ≡ n + 1 - at r i
    turned i j e = (flip-opposite n r).turn i j (omega (arith, O.size))

    pub facing_occurs : 1 ≤ f.count → OccursIn g u (flip v.places r)
    facing_occurs some = record {
      size = length-flip n r ∙ O.size ∙ sym F.count;
      word = λ j h. let i = m - 1 - j in let e : i + j + 1 ≡ m = omega (arith, F.count) in
          let l : i < m = omega arith in
          let t = turned i j e in
          let w = O.word i l in
          let in-text = w.inside in
          record { inside = omega (arith, F.size); fit = F.fits i j e (at s j) (at r i) (omega arith) (omega arith) (omega arith) ∙ w.fit };
      gap = λ j h. let i = m - 2 - j in
          let e : i + 1 + j + 1 ≡ m = omega (arith, F.count) in
          let e' : i + (j + 1) + 1 ≡ m = omega arith in
          let l : i + 1 < m = omega arith in
          omega (arith, turned (i + 1) j e, turned i (j + 1) e', O.gap i l, (O.word i (omega arith)).inside, (O.word (i + 1) l).inside, F.low (i + 1) (j + 1) (omega arith) (omega arith) (omega arith), F.high (i + 1) (j + 1) (omega arith) (omega arith) (omega arith));
      span = let i = m - 1 in
          let c : g.count - 1 ≡ m - 1 = omega (arith, F.count) in
          let e : i + 0 + 1 ≡ m = omega arith in
          let e' : 0 + i + 1 ≡ m = omega arith in
          rw c (omega (arith, turned i 0 e, turned 0 i e', O.span, (O.word 0 some).inside, (O.word i (omega arith)).inside, F.least, F.most));
      sentence = λ x a b. let i = m - 1 in
          let c : g.count - 1 ≡ m - 1 = omega (arith, F.count) in
          let e : i + 0 + 1 ≡ m = omega arith in
          let e' : 0 + i + 1 ≡ m = omega arith in
          let b' = rw c at b in
          let first = turned i 0 e in
          let last = turned 0 i e' in
          let start = (O.word 0 some).inside in
          let end = (O.word i (omega arith)).inside in
          F.ends x (n + 1 - x) (omega arith) (omega arith) (omega arith) ∙ O.sentence (n + 1 - x) (omega arith) (omega arith);
    }

-- ---- the nearest from here and from there

module _ {f : Pattern} {v : View} {g : Pattern} {u : View} (F : Facing f v g u) (some : 1 ≤ f.count) where
  -- an occurrence there, read from the end, is one here
  pub facing_row : {r : List ℕ} → OccursIn g u r → OccursIn f v (flip v.places r)
  facing_row {r} O = rw F.size at (facing_occurs (facing_back F) O (omega (arith, F.count)))

  row-opposite : {r : List ℕ} → OccursIn g u r → Opposite f.count v.places (flip v.places r) r
  row-opposite {r} O = record {
    turn = λ i j e. omega (arith, (flip-opposite v.places r).turn j i (omega (arith, O.size, F.count)), (O.word j (omega (arith, F.count))).inside, F.size);
  }

  module _ {marks far : List ℕ} (M : Opposite f.count v.places marks far) where
    pub past_there : {r : List ℕ} → OccursIn f v r → After f.count marks r → Before g.count far (flip v.places r)
    unfolding Before
    past_there {r} O P j h =
        let i = f.count - 1 - j in
        let e : i + j + 1 ≡ f.count = omega (arith, F.count) in
        let l : i < f.count = omega arith in
        omega (arith, M.turn i j e, (flip-opposite v.places r).turn i j (omega (arith, O.size)), P i l, (O.word i l).inside)

    pub nearest_back : {r : List ℕ} → Nearest (OccursIn g u) (Before g.count) (NotAfter g.count) far r
        → Nearest (OccursIn f v) (After f.count) (NotBefore f.count) marks (flip v.places r)
    unfolding Before NotAfter
    nearest_back {r} N = record {
      hit = facing_row N.hit;
      past = λ i h. let j = f.count - 1 - i in
          let e : i + j + 1 ≡ f.count = omega arith in
          let l : j < g.count = omega (arith, F.count) in
          omega (arith, M.turn i j e, N.past j l, (N.hit.word j l).inside, F.size, (flip-opposite v.places r).turn j i (omega (arith, N.hit.size, F.count)));
      least = λ s O P i h. let j = f.count - 1 - i in
          let e : i + j + 1 ≡ f.count = omega arith in
          let l : j < g.count = omega (arith, F.count) in
          omega (arith, N.least (flip v.places s) (facing_occurs F O some) (past_there O P) j l, (flip-opposite v.places s).turn i j (omega (arith, O.size)), (O.word i h).inside, (N.hit.word j l).inside, F.size, (flip-opposite v.places r).turn j i (omega (arith, N.hit.size, F.count)));
    }

    pub none_back : ((s : List ℕ) → OccursIn g u s → Before g.count far s → ⊥) → (s : List ℕ) → OccursIn f v s → After f.count marks s → ⊥
    none_back never s O P = never (flip v.places s) (facing_occurs F O some) (past_there O P)

  pub greedy_back : {marks far : List ℕ} → Opposite f.count v.places marks far → {R : List (List ℕ)}
      → Greedy (OccursIn g u) (Before g.count) (NotAfter g.count) far R → Greedy (OccursIn f v) (After f.count) (NotBefore f.count) marks (map (flip v.places) R)
  greedy_back M (done no_more) = done (none_back M no_more)
  greedy_back {marks = marks} M (next {r = r} N G) = next (nearest_back M N) (greedy_back {marks = flip v.places r} (row-opposite N.hit) G)

  -- the front list there is the back list here, from its last row on
  pub front_back_list : v.places ≤ 20000 → {R : List (List ℕ)} → FrontIn g u R → BackIn f v (map (flip v.places) R)
  unfolding Before
  front_back_list short G =
      greedy_from {a = level f.count (v.places + 1)} {b = level f.count 65535}
      (λ s o p j h. omega (arith, (o.word j h).inside, at_level f.count 65535 j h))
      (λ s o p j h. omega (arith, (o.word j h).inside, at_level f.count (v.places + 1) j h))
      (greedy_back (record { turn = λ i j e. omega (arith, at_level g.count 0 j (omega (arith, F.count)), at_level f.count (v.places + 1) i (omega arith)) }) G)
