-- The reader finds every expression of the grammar, so an expression has one tree and one depth.
use Rattle.std.specs.Prelude.{ℕ, suc, ◌+◌, ◌-◌, ◌≤◌, ◌≡◌, List, [], ◌∷◌, ◌++◌, get_or}
use Rattle.std.proofs.Math.Path.{refl}
use Rattle.std.proofs.Common.{sym, ◌∙◌, ap, append_assoc, append-nil}
use native.Mathlib.Omega.{arith}
use borrow.Author.Tests.{le-leb, ne_eqb}
use Rattle.classes.specs.Trees.{Tree, letter}
use Rattle.classes.specs.Grammar.{Level, alternative, conjunction, factor, Grammar, one_letter, denial, brackets, one_factor, and_factor, one_conjunction, or_conjunction}
use Rattle.classes.specs.Steps.Reader.{Left, nothing, part, Outer, whole, bracket, wants, has, or_tree, deepest, given, closed, step, expression, ending, reading}

-- ---- one byte

module _ (s : List ℕ) (n : ℕ) (l m : Left) (o : Outer) where
  pub reads_not : ending (33 ∷ s) (wants n l m o) ≡ ending s (wants (suc n) l m o)
  unfolding ending step
  reads_not = refl

  pub reads_open : ending (40 ∷ s) (wants n l m o) ≡ ending s (wants 0 nothing nothing (bracket n l m o))
  unfolding ending step
  reads_open = refl

  pub reads_letter : (b : ℕ) → 97 ≤ b → b ≤ 104 → ending (b ∷ s) (wants n l m o) ≡ ending s (given n l m (letter (b - 97)) 0 o)
  unfolding ending step
  reads_letter b low high =
      let h : b ≡ 33 → ⊥ = λ e. omega arith in
      let k : b ≡ 40 → ⊥ = λ e. omega arith in
      simp (ne_eqb b 33 h, ne_eqb b 40 k, le-leb 97 b low, le-leb b 104 high)

module _ (s : List ℕ) (l : Left) (t : Tree) (d : ℕ) (o : Outer) where
  pub reads_and : ending (38 ∷ s) (has l t d o) ≡ ending s (wants 0 l (part t d) o)
  unfolding ending step
  reads_and = refl

  pub reads_or : ending (124 ∷ s) (has l t d o) ≡ ending s (wants 0 (part (or_tree l t) (deepest l d)) nothing o)
  unfolding ending step
  reads_or = refl

  pub reads_close : ending (41 ∷ s) (has l t d o) ≡ ending s (closed o (or_tree l t) (deepest l d))
  unfolding ending step
  reads_close = refl

-- a left side of `|` is joined as soon as no `&` follows
pub joins : (s : List ℕ) (l : Left) (t : Tree) (d : ℕ) (o : Outer) → (get_or s 0 0 ≡ 38 → ⊥) → ending s (has l t d o) ≡ ending s (has nothing (or_tree l t) (deepest l d) o)
unfolding ending step
joins [] l t d whole h = refl
joins [] l t d (bracket n l' m o) h = refl
joins (b ∷ s) l t d o h = simp (ne_eqb b 38 h)

-- ---- the grammar's expressions

-- what the reader makes of an expression of each level, whatever stands around it
abbrev pub Found : Level → List ℕ → Tree → ℕ → Type 0
Found factor w t d = (n : ℕ) (l m : Left) (o : Outer) (s : List ℕ) → ending (w ++ s) (wants n l m o) ≡ ending s (given n l m t d o)
Found conjunction w t d = (l : Left) (o : Outer) (s : List ℕ) → ending (w ++ s) (wants 0 l nothing o) ≡ ending s (has l t d o)
Found alternative w t d = (o : Outer) (s : List ℕ) → (get_or s 0 0 ≡ 38 → ⊥) → ending (w ++ s) (wants 0 nothing nothing o) ≡ ending s (has nothing t d o)

pub found : {k : Level} {w : List ℕ} {t : Tree} {d : ℕ} → Grammar k w t d → Found k w t d
found (one_letter k h) = λ n l m o s. reads_letter s n l m o (97 + k) (omega arith) (omega arith) ∙ ap (λ (j : ℕ). ending s (given n l m (letter j) 0 o)) (omega arith)
found (denial {s = w} g) = λ n l m o s. reads_not (w ++ s) n l m o ∙ found g (suc n) l m o s
found (brackets {s = w} {t = t} {d = d} g) = λ n l m o s.
    reads_open _ n l m o ∙ ap (λ (r : List ℕ). ending r (wants 0 nothing nothing (bracket n l m o))) (append_assoc w (41 ∷ []) s)
    ∙ found g (bracket n l m o) (41 ∷ s) (λ e. omega arith)
    ∙ reads_close s nothing t d (bracket n l m o)
found (one_factor g) = λ l o s. found g 0 l nothing o s
found (and_factor {s = w} {s' = w'} {t = t} {d = d} g h) = λ l o s.
    ap (λ (r : List ℕ). ending r (wants 0 l nothing o)) (append_assoc w (38 ∷ w') s)
    ∙ found g l o (38 ∷ (w' ++ s))
    ∙ reads_and (w' ++ s) l t d o
    ∙ found h 0 l (part t d) o s
found (one_conjunction g) = λ o s e. found g nothing o s
found (or_conjunction {s = w} {s' = w'} {t = t} {t' = t'} {d = d} {d' = d'} g h) = λ o s e.
    ap (λ (r : List ℕ). ending r (wants 0 nothing nothing o)) (append_assoc w (124 ∷ w') s)
    ∙ found g o (124 ∷ (w' ++ s)) (λ e. omega arith)
    ∙ reads_or (w' ++ s) nothing t d o
    ∙ found h (part t d) o s
    ∙ joins s (part t d) t' d' o e

pub complete : {s : List ℕ} {t : Tree} {d : ℕ} → Grammar alternative s t d → reading s ≡ expression t d
unfolding ending
complete {s} g = ap (λ (r : List ℕ). reading r) (sym (append-nil s)) ∙ found g whole [] (λ e. omega arith)

-- ---- an expression has one tree and one depth

pub same_expression : {t u : Tree} {d e : ℕ} → expression t d ≡ expression u e → (t ≡ u) × (d ≡ e)
same_expression p = ((cc), (cc))

pub unambiguous : {s : List ℕ} {t u : Tree} {d e : ℕ} → Grammar alternative s t d → Grammar alternative s u e → (t ≡ u) × (d ≡ e)
unambiguous g h = same_expression (sym (complete g) ∙ complete h)
