-- Two texts with a sentence end between them: an occurrence keeps to one sentence, so it lies in one of the two. So the occurrences and
-- the front list are those of the first text, then those of the second, and the numbers add up.
use Rattle.std.specs.Prelude.{ℕ, zero, suc, ◌+◌, ◌-◌, ◌≤◌, ◌<◌, ◌≡◌, ◌↔◌, true, length, eqb, Ok}
use Rattle.std.proofs.Math.Decide.{dec_lt}
use Rattle.std.proofs.Common.{arith, sym, ap, subst, ◌∙◌, true≢false, length-append, get_or-append-add}
use mathlib.Core.List.Memᴰ
use mathlib.Core.List.{List, ◌∷◌, ◌++◌, map, Memᴰ}
use Rattle.std.proofs.lemmas.List.{length-map}
use Rattle.std.proofs.Math.ListN.{get_or-append}
use Rattle.std.proofs.Math.Seq.{get_or-append_seam}
use Rattle.basics.specs.Collections.{Every, Pairwise}
use Rattle.basics.specs.Laws.Collections.{every_map, every-mem, every_append, pairwise_append, map-every, map_pairwise, map_at}
use Rattle.pattern.specs.declared.Pattern.{Pattern}
use Rattle.pattern.specs.Patterns.{takes, slot_at}
use Rattle.pattern.specs.Tests.{Verdict, input_verdict}
use Rattle.pattern.specs.Accepted.{Accepted}
use Rattle.pattern.specs.Laws.Accepting.{input-accepted}
use Rattle.matching.specs.Occurrence.{View, plain, word_at, OccursIn, at}
use Rattle.matching.specs.Occurrences.{Lex, occurrences_in, occurrences}
use Rattle.matching.specs.Rows.{level, Before, NotAfter}
use Rattle.matching.specs.Searches.{EarliestIn}
use Rattle.matching.specs.Lists.{leftmost_in, leftmost}
use Rattle.matching.specs.Spans.{NoEndFits}
use Rattle.matching.specs.Answers.{counted}
use Rattle.matching.specs.Joining.{shifted, Lies, in_first, in_second, JoinedTexts, SupportsAdd}
use Rattle.matching.proofs.Laws.Rows.{at_level, occurs_between}
use Rattle.matching.proofs.Laws.Sentences.{accepted_no_end}
use Rattle.matching.proofs.Laws.Pieces.{Piece, at_shifted, shifted_back, lex_shifted, lex_first, length-rows, piece_whole, whole_piece}
use Rattle.matching.proofs.Laws.Enumeration.{occurrences-occur, occurrences_iff, occurrences_lex}
use Rattle.matching.proofs.Laws.Ordering.{lex_unique}
use Rattle.matching.proofs.Laws.Greedy.{done, next}
use Rattle.matching.proofs.Laws.Bounding.{Forward}
use Rattle.matching.proofs.Laws.Extremes.{leftmost-front, front_unique}

-- the view x is v, then a place at which a sentence ends, then w; none of m slots fits where a sentence ends
pub record Joined (m : ℕ) (v w x : View) : Type 0 where
  pub size : x.places ≡ v.places + 1 + w.places
  pub first : Piece m 0 v x
  pub second : Piece m (v.places + 1) w x
  pub stop : x.ends (v.places + 1) ≡ true
  pub no_end : NoEndFits m x

-- ---- two joined views

module _ (f : Pattern) {v w x : View} (J : Joined f.count v w x) (some : 1 ≤ f.count) where
  abbrev n : ℕ
  n = v.places + 1

  moved : {r : List ℕ} → OccursIn f w r → (j : ℕ) → j < f.count → at (shifted n r) j ≡ at r j + n
  moved {r} O j h = at_shifted n r j (omega (arith, O.size))

  first_whole : {r : List ℕ} → OccursIn f v r → OccursIn f x r
  first_whole O = piece_whole J.first some (λ j h. omega arith) O.size O

  second_whole : {r : List ℕ} → OccursIn f w r → OccursIn f x (shifted n r)
  second_whole {r} O = piece_whole J.second some (moved O) (length-map r (λ p. p + n) ∙ O.size) O

  whole_first : {r : List ℕ} → OccursIn f x r → at r (f.count - 1) ≤ v.places → OccursIn f v r
  whole_first O l = whole_piece J.first some (λ j h. omega arith) O.size (λ j h. ((O.word j h).inside.0, omega (arith, occurs_between O j h))) O

  whole_second : {s : List ℕ} → OccursIn f x s → n < at s 0 → Lies f v w s
  whole_second {s} O l =
      let r = map (λ p. p - n) s in
      let back : shifted n r ≡ s = shifted_back n s (λ j h. omega (arith, occurs_between O j (omega (arith, O.size)))) in
      let size : length r ≡ f.count = length-map s (λ p. p - n) ∙ O.size in
      let down : (j : ℕ) → j < f.count → at r j ≡ at s j - n = λ j h. map_at (λ p. p - n) s 0 0 j (omega (arith, O.size)) in
      let inside : (j : ℕ) → j < f.count → (1 ≤ at r j) × (at r j ≤ w.places) = λ j h. omega (arith, down j h, (O.word j h).inside, occurs_between O j h, J.size) in
      subst (Lies f v w) back (in_second {r = r} (whole_piece J.second some (λ j h. at_shifted n r j (omega arith)) size inside (subst (OccursIn f x) (sym back) O)))

  -- no place of an occurrence is the one between the two views, nor do places on both sides of it keep to one sentence
  one_side : {s : List ℕ} → OccursIn f x s → at s 0 ≤ n → n ≤ at s (f.count - 1) → ⊥
  one_side {s} O a b =
      let m : f.count - 1 < f.count = omega arith in
      let unlike : (j : ℕ) → j < f.count → at s j ≡ n → ⊥ = λ j h e. true≢false (sym J.stop ∙ sym (ap x.ends e) ∙ J.no_end.unfit j h (at s j) (O.word j h).fit) in
      true≢false (sym J.stop ∙ O.sentence n (omega (arith, unlike 0 some)) (omega (arith, unlike (f.count - 1) m)))

  occurs_lies : {s : List ℕ} → OccursIn f x s → Lies f v w s
  occurs_lies {s} O = elim (dec_lt (at s (f.count - 1)) n) [
    | yes l ↦ in_first (whole_first O (omega arith))
    | no l ↦ elim (dec_lt n (at s 0)) [ yes k ↦ whole_second O k | no k ↦ absurd (one_side O (omega arith) (omega arith)) ]
  ]

  lies_occurs : {s : List ℕ} → Lies f v w s → OccursIn f x s
  lies_occurs (in_first O) = first_whole O
  lies_occurs (in_second O) = second_whole O

  -- a row occurs in the whole exactly if it lies in one of the two views
  pub joined_iff : (s : List ℕ) → OccursIn f x s ↔ Lies f v w s
  joined_iff s = (occurs_lies, lies_occurs)

  -- ---- all occurrences

  lies_listed : {s : List ℕ} → Lies f v w s → Memᴰ s (occurrences_in f v ++ map (shifted n) (occurrences_in f w))
  lies_listed (in_first {r = r} O) = Memᴰ.append_left _ ((occurrences_iff f v r).1 O)
  lies_listed (in_second {r = r} O) = Memᴰ.append_right (occurrences_in f v) (Memᴰ.map (shifted n) ((occurrences_iff f w r).1 O))

  listed_lie : Every (Lies f v w) (occurrences_in f v ++ map (shifted n) (occurrences_in f w))
  listed_lie = every_append (every_map (λ r O. in_first O) (occurrences-occur f v)) (map-every (shifted n) (λ r O. in_second O) (occurrences-occur f w))

  second_later : {r s : List ℕ} → OccursIn f v r → OccursIn f w s → (j : ℕ) → j < f.count → at r j < at (shifted n s) j
  second_later O Q j h = omega (arith, moved Q j h, (O.word j h).inside)

  listed_lex : Pairwise Lex (occurrences_in f v ++ map (shifted n) (occurrences_in f w))
  listed_lex =
      pairwise_append (occurrences_lex f v) (map_pairwise (shifted n) (λ r s l. lex_shifted n l) (occurrences_lex f w))
      (every_map (λ r O. map-every (shifted n) (λ s Q. lex_first r (shifted n s) (omega (arith, O.size)) (omega (arith, (second_whole Q).size)) (second_later O Q 0 some)) (occurrences-occur f w)) (occurrences-occur f v))

  -- those of v, then those of w, shifted
  pub occurrences_in-joined : occurrences_in f x ≡ occurrences_in f v ++ map (shifted (v.places + 1)) (occurrences_in f w)
  occurrences_in-joined =
      lex_unique (occurrences_lex f x) listed_lex
      (λ s i. lies_listed (occurs_lies ((occurrences_iff f x s).0 i)))
      (λ s i. (occurrences_iff f x s).1 (lies_occurs (every-mem listed_lie i)))

  -- ---- the front list

  -- past the marks b in the whole are those occurrences of w that are past the marks a there, and none of v
  record Abreast (a b : List ℕ) : Type 0 where
    onward : {r : List ℕ} → OccursIn f w r → Before f.count a r → Before f.count b (shifted n r)
    back : {r : List ℕ} → OccursIn f w r → Before f.count b (shifted n r) → Before f.count a r
    none : (r : List ℕ) → OccursIn f v r → Before f.count b r → ⊥

  past_second : {a b : List ℕ} → Abreast a b → (Q : List ℕ → Type 0) → ((r : List ℕ) → OccursIn f w r → Before f.count a r → Q (shifted n r))
      → {s : List ℕ} → Lies f v w s → Before f.count b s → Q s
  past_second L Q q (in_first {r = r} O) p = absurd (L.none r O p)
  past_second L Q q (in_second {r = r} O) p = q r O (L.back O p)

  abreast_shifted : {r : List ℕ} → OccursIn f w r → Abreast r (shifted n r)
  unfolding Before
  abreast_shifted {r} O =
      let here : (j : ℕ) → j < f.count → at (shifted n r) j ≡ at r j + n = moved O in
      record {
        onward = λ Q p j h. omega (arith, here j h, moved Q j h, p j h);
        back = λ Q p j h. omega (arith, here j h, moved Q j h, p j h);
        none = λ s Q p. omega (arith, here 0 some, p 0 some, (Q.word 0 some).inside);
      }

  greedy_second : {a b : List ℕ} {G : List (List ℕ)} → Abreast a b → Forward f.count (OccursIn f w) a G → Forward f.count (OccursIn f x) b (map (shifted n) G)
  unfolding NotAfter
  greedy_second L (done no_more) = done (λ s O. past_second L (λ q. ⊥) no_more (occurs_lies O))
  greedy_second L (next {r = r} N g) =
      next
      (record {
        hit = second_whole N.hit;
        past = L.onward N.hit N.past;
        least = λ s O. past_second L (NotAfter f.count (shifted n r))
            (λ q Q p j h. omega (arith, N.least q Q p j h, moved N.hit j h, moved Q j h)) (occurs_lies O);
      })
      (greedy_second (abreast_shifted N.hit) g)

  first_least : {a r s : List ℕ} → EarliestIn f v a r → Lies f v w s → Before f.count a s → NotAfter f.count r s
  unfolding NotAfter
  first_least N (in_first {r = q} O) p = N.least q O p
  first_least N (in_second O) p = λ j h. omega (arith, second_later N.hit O j h)

  greedy_joined : {a : List ℕ} {F G : List (List ℕ)} → ((j : ℕ) → j < f.count → at a j ≤ v.places)
      → Forward f.count (OccursIn f v) a F → Forward f.count (OccursIn f w) (level f.count 0) G → Forward f.count (OccursIn f x) a (F ++ map (shifted n) G)
  unfolding Before
  greedy_joined low (done no_more) G =
      greedy_second (record {
        onward = λ O p j h. omega (arith, moved O j h, low j h);
        back = λ O p j h. omega (arith, at_level f.count 0 j h, (O.word j h).inside);
        none = no_more;
      }) G
  greedy_joined low (next N F) G =
      next (record { hit = first_whole N.hit; past = N.past; least = λ s O. first_least N (occurs_lies O) })
      (greedy_joined (λ j h. (N.hit.word j h).inside.1) F G)

  -- that of v, then that of w, shifted
  pub leftmost_in-joined : leftmost_in f x ≡ leftmost_in f v ++ map (shifted (v.places + 1)) (leftmost_in f w)
  leftmost_in-joined = sym (front_unique f x some
      (greedy_joined (λ j h. omega (arith, at_level f.count 0 j h)) (leftmost-front f v some) (leftmost-front f w some)))

-- ---- two texts

module _ (t u : List ℕ) where
  word_first : (p q : ℕ) → q ≡ p + 0 → 1 ≤ p → p ≤ length t → word_at (t ++ 0 ∷ u) q ≡ word_at t p
  word_first p q e a b =
      let d : q - 1 ≡ p - 1 = omega arith in
      let l : p - 1 < length t = omega arith in
      ap (at (t ++ 0 ∷ u)) d ∙ get_or-append t (0 ∷ u) 0 (p - 1) l

  word_between : word_at (t ++ 0 ∷ u) (length t + 1) ≡ 0
  word_between = let e : length t + 1 - 1 ≡ length t = omega arith in rw e (get_or-append_seam t 0 u 0)

  word_second : (p q : ℕ) → q ≡ p + (length t + 1) → 1 ≤ p → word_at (t ++ 0 ∷ u) q ≡ word_at u p
  word_second zero q e h = absurd (omega arith)
  word_second (suc p) q e h =
      let d : q - 1 ≡ length t + suc p = omega arith in
      let c : p ≡ suc p - 1 = omega arith in
      ap (at (t ++ 0 ∷ u)) d ∙ get_or-append-add t (0 ∷ u) (suc p) 0 ∙ ap (at u) c

  length-joined : length (t ++ 0 ∷ u) ≡ length t + 1 + length u
  length-joined = omega (arith, length-append t (0 ∷ u))

module _ {f : Pattern} (ok : Accepted f) (t u : List ℕ) where
  -- joined by the word 0, which no slot of an accepted pattern takes
  pub plain-joined : Joined f.count (plain f t) (plain f u) (plain f (t ++ 0 ∷ u))
  plain-joined = record {
    size = length-joined t u;
    first = record {
      room = omega (arith, length-joined t u);
      fits = λ j h p q e a b. ap (takes (slot_at f j)) (word_first t u p q e a b);
      ends = λ p q e a b. ap (λ (c : ℕ). eqb c 0) (word_first t u p q e a b);
    };
    second = record {
      room = omega (arith, length-joined t u);
      fits = λ j h p q e a b. ap (takes (slot_at f j)) (word_second t u p q e a);
      ends = λ p q e a b. ap (λ (c : ℕ). eqb c 0) (word_second t u p q e a);
    };
    stop = ap (λ (c : ℕ). eqb c 0) (word_between t u);
    no_end = accepted_no_end ok (t ++ 0 ∷ u);
  }

  -- what is stated of the joined text holds
  pub joined_texts : JoinedTexts f t u
  joined_texts =
      let all = occurrences_in-joined f plain-joined ok.some in
      let front = leftmost_in-joined f plain-joined ok.some in
      record {
        occurs = joined_iff f plain-joined ok.some;
        all = all;
        front = front;
        tally = ap length all ∙ length-rows (length t + 1) (occurrences f t) (occurrences f u);
        support = ap length front ∙ length-rows (length t + 1) (leftmost f t) (leftmost f u);
      }

-- ---- the calls

-- where the joined text passes the tests, so do the two
pub joined-input : (f : Pattern) (t u : List ℕ) → input_verdict f (length (t ++ 0 ∷ u)) ≡ Ok tt → (input_verdict f (length t) ≡ Ok tt) × (input_verdict f (length u) ≡ Ok tt)
joined-input f t u e =
    let a = (input-accepted f (length (t ++ 0 ∷ u))).0 e in (
      (input-accepted f (length t)).1 (record { pattern = a.pattern; short = omega (arith, a.short, length-joined t u) }),
      (input-accepted f (length u)).1 (record { pattern = a.pattern; short = omega (arith, a.short, length-joined t u) }),
    )

counted-rows : {o : Verdict} → o ≡ Ok tt → (R : List (List ℕ)) → counted o R ≡ Ok (length R)
counted-rows e R = ap (λ (o : Verdict). counted o R) e

-- where the joined text passes the tests, its support is the sum of the two
pub supports_add : (f : Pattern) (t u : List ℕ) → input_verdict f (length (t ++ 0 ∷ u)) ≡ Ok tt → SupportsAdd f t u
supports_add f t u e =
    let b = joined-input f t u e in
    record {
      first = length (leftmost f t);
      second = length (leftmost f u);
      of_first = counted-rows b.0 (leftmost f t);
      of_second = counted-rows b.1 (leftmost f u);
      of_joined = counted-rows e (leftmost f (t ++ 0 ∷ u)) ∙ ap Ok (joined_texts ((input-accepted f (length (t ++ 0 ∷ u))).0 e).pattern t u).support;
    }
