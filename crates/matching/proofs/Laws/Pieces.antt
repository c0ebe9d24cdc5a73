-- A piece of a view: the occurrences in it are those of the whole view that stand at its places.
use Rattle.std.specs.Prelude.{ℕ, ◌+◌, ◌-◌, ◌≤◌, ◌<◌, ◌≡◌, List, [], ◌∷◌, ◌++◌, map, length}
use Rattle.std.proofs.Common.{arith, sym, ◌∙◌, length-append, ext_get_or}
use Rattle.std.proofs.lemmas.List.{length-map}
use Rattle.basics.specs.Laws.Collections.{map_at}
use Rattle.pattern.specs.declared.Pattern.{Pattern}
use Rattle.matching.specs.Occurrence.{View, OccursIn, at}
use Rattle.matching.specs.Occurrences.{Lex, here, after}
use Rattle.matching.specs.Joining.{shifted}

-- to a pattern of m slots, the view v is a stretch of x: the places after its first n
pub record Piece (m n : ℕ) (v x : View) : Type 0 where
  pub room : v.places + n ≤ x.places
  pub fits : (j : ℕ) → j < m → (p q : ℕ) → q ≡ p + n → 1 ≤ p → p ≤ v.places → x.fits j q ≡ v.fits j p
  pub ends : (p q : ℕ) → q ≡ p + n → 1 ≤ p → p ≤ v.places → x.ends q ≡ v.ends p

-- ---- shifted rows

pub at_shifted : (n : ℕ) (r : List ℕ) (j : ℕ) → j < length r → at (shifted n r) j ≡ at r j + n
at_shifted n r j h = map_at (λ p. p + n) r 0 0 j h

-- a row that stands after the first n places is a shifted one
pub shifted_back : (n : ℕ) (s : List ℕ) → ((j : ℕ) → j < length s → n ≤ at s j) → shifted n (map (λ p. p - n) s) ≡ s
shifted_back n s h =
    let r = map (λ p. p - n) s in
    let e : length r ≡ length s = length-map s (λ p. p - n) in
    let d : length (shifted n r) ≡ length s = length-map r (λ p. p + n) ∙ e in
    ext_get_or 0 (shifted n r) s d (λ j l. omega (arith, at_shifted n r j (omega arith), map_at (λ p. p - n) s 0 0 j (omega arith), h j (omega arith)))

pub lex_shifted : (n : ℕ) {r s : List ℕ} → Lex r s → Lex (shifted n r) (shifted n s)
lex_shifted n (here {p = p} {q = q} l) = let h : p + n < q + n = omega arith in here h
lex_shifted n (after l) = after (lex_shifted n l)

-- an earlier first place
pub lex_first : (r s : List ℕ) → 1 ≤ length r → 1 ≤ length s → at r 0 < at s 0 → Lex r s
lex_first [] s a b l = absurd (omega arith)
lex_first (p ∷ r) [] a b l = absurd (omega arith)
lex_first (p ∷ r) (q ∷ s) a b l = here l

-- rows, then shifted rows
pub length-rows : (n : ℕ) (R S : List (List ℕ)) → length (R ++ map (shifted n) S) ≡ length R + length S
length-rows n R S = omega (arith, length-append R (map (shifted n) S), length-map S (shifted n))

-- ---- a piece of a view

-- an occurrence that is moved as a whole, to places that its slots fit as well and between which no other sentences end, is one there
occurs-moved : {f : Pattern} {v x : View} {r s : List ℕ} → 1 ≤ f.count → (a b : ℕ) → ((j : ℕ) → j < f.count → at r j + a ≡ at s j + b)
    → length s ≡ f.count → ((j : ℕ) → j < f.count → (1 ≤ at s j) × (at s j ≤ x.places)) → ((j : ℕ) → j < f.count → x.fits j (at s j) ≡ v.fits j (at r j))
    → ((p q : ℕ) → p + a ≡ q + b → at r 0 < p → p < at r (f.count - 1) → x.ends q ≡ v.ends p) → OccursIn f v r → OccursIn f x s
occurs-moved {f} {r = r} {s = s} some a b move size inside fits ends O =
    let last = move (f.count - 1) (omega arith) in
    let first = move 0 some in
    record {
      size = size;
      word = λ j h. record { inside = inside j h; fit = fits j h ∙ (O.word j h).fit };
      gap = λ j h. omega (arith, move j (omega arith), move (j + 1) h, O.gap j h);
      span = omega (arith, O.span);
      sentence = λ q l h. let p = q + b - a in ends p q (omega arith) (omega arith) (omega arith) ∙ O.sentence p (omega arith) (omega arith);
    }

module _ {f : Pattern} {n : ℕ} {v x : View} (P : Piece f.count n v x) (some : 1 ≤ f.count)
    {r s : List ℕ} (move : (j : ℕ) → j < f.count → at s j ≡ at r j + n) where
  -- what occurs in the piece occurs in the whole
  pub piece_whole : length s ≡ f.count → OccursIn f v r → OccursIn f x s
  piece_whole size O =
      let last = (O.word (f.count - 1) (omega arith)).inside in
      occurs-moved some n 0 (λ j h. omega (arith, move j h)) size
      (λ j h. omega (arith, move j h, (O.word j h).inside, P.room))
      (λ j h. P.fits j h (at r j) (at s j) (move j h) (O.word j h).inside.0 (O.word j h).inside.1)
      (λ p q e l h. P.ends p q (omega arith) (omega arith) (omega arith))
      O

  -- and what occurs in the whole, at places of the piece, occurs in the piece
  pub whole_piece : length r ≡ f.count → ((j : ℕ) → j < f.count → (1 ≤ at r j) × (at r j ≤ v.places)) → OccursIn f x s → OccursIn f v r
  whole_piece size inside O =
      let first = move 0 some in
      let last = move (f.count - 1) (omega arith) in
      let end = inside (f.count - 1) (omega arith) in
      occurs-moved some 0 n (λ j h. omega (arith, move j h)) size inside
      (λ j h. sym (P.fits j h (at r j) (at s j) (move j h) (inside j h).0 (inside j h).1))
      (λ p q e l h. sym (P.ends q p (omega arith) (omega arith) (omega arith)))
      O
