-- What the reader finds is of the grammar: each state of the reader has a meaning in the grammar.
use Rattle.std.specs.Prelude.{ℕ, zero, suc, ◌+◌, ◌-◌, max, ◌≡◌, refl, Bool, true, false, List, [], ◌∷◌, ◌++◌, replicate, eqb, leb}
use Rattle.std.proofs.Common.{sym, ap, subst, append_assoc, append-nil, arith, eqb-true, leb-true}
use Rattle.basics.specs.Choice.{pick}
use Rattle.classes.specs.Trees.{Tree, letter, negation, both, either}
use Rattle.classes.specs.Grammar.{Level, alternative, conjunction, factor, Grammar, one_letter, denial, brackets, one_factor, and_factor, one_conjunction, or_conjunction}
use Rattle.classes.specs.Steps.Reader.{Left, nothing, part, Outer, whole, bracket, State, wants, has, stuck, and_tree, or_tree, deepest, negated, given, closed, step, wrong, expression, finished, ending, reading}
use Rattle.classes.specs.Laws.Complete.{same_expression}

-- ---- the bytes that led to a state

-- a left side with its operator
data LeftBytes (k : Level) (operator : ℕ) : Left → List ℕ → Type 0 where
  absent : LeftBytes k operator nothing []
  present : {w : List ℕ} {t : Tree} {d : ℕ} → Grammar k w t d → LeftBytes k operator (part t d) (w ++ (operator ∷ []))

data OuterBytes : Outer → List ℕ → Type 0 where
  outermost : OuterBytes whole []
  inside : {n : ℕ} {l m : Left} {o : Outer} {p w w' : List ℕ} → OuterBytes o p → LeftBytes alternative 124 l w → LeftBytes conjunction 38 m w' → OuterBytes (bracket n l m o) (p ++ (w ++ (w' ++ (replicate n 33 ++ (40 ∷ [])))))

data StateBytes : State → List ℕ → Type 0 where
  wanting : {n : ℕ} {l m : Left} {o : Outer} {p w w' : List ℕ} → OuterBytes o p → LeftBytes alternative 124 l w → LeftBytes conjunction 38 m w' → StateBytes (wants n l m o) (p ++ (w ++ (w' ++ replicate n 33)))
  having : {l : Left} {t : Tree} {d : ℕ} {o : Outer} {p w v : List ℕ} → OuterBytes o p → LeftBytes alternative 124 l w → Grammar conjunction v t d → StateBytes (has l t d o) (p ++ (w ++ v))
  sticking : {p : List ℕ} → StateBytes stuck p

-- ---- joining

snoc : (n : ℕ) (v : List ℕ) → replicate n 33 ++ (33 ∷ v) ≡ 33 ∷ (replicate n 33 ++ v)
snoc zero v = refl
snoc (suc n) v = ap (λ (q : List ℕ). 33 ∷ q) (snoc n v)

denied : (n : ℕ) {v : List ℕ} {t : Tree} {d : ℕ} → Grammar factor v t d → Grammar factor (replicate n 33 ++ v) (negated n t) d
denied zero g = g
denied (suc n) {v} {t} {d} g = subst (λ (q : List ℕ). Grammar factor q (negated n (negation t)) d) (snoc n v) (denied n (denial g))

conjoined : {m : Left} {w v : List ℕ} {t : Tree} {d : ℕ} → LeftBytes conjunction 38 m w → Grammar factor v t d → Grammar conjunction (w ++ v) (and_tree m t) (deepest m d)
conjoined absent g = one_factor g
conjoined {v = v} {t = t} {d = d} (present {w = w} {t = u} {d = e} h) g = subst (λ (q : List ℕ). Grammar conjunction q (both u t) (max e d)) (sym (append_assoc w (38 ∷ []) v)) (and_factor h g)

disjoined : {l : Left} {w v : List ℕ} {t : Tree} {d : ℕ} → LeftBytes alternative 124 l w → Grammar conjunction v t d → Grammar alternative (w ++ v) (or_tree l t) (deepest l d)
disjoined absent g = one_conjunction g
disjoined {v = v} {t = t} {d = d} (present {w = w} {t = u} {d = e} h) g = subst (λ (q : List ℕ). Grammar alternative q (either u t) (max e d)) (sym (append_assoc w (124 ∷ []) v)) (or_conjunction h g)

-- a factor that was wanted
given_bytes : (n : ℕ) {l m : Left} {o : Outer} {p w w' v : List ℕ} {t : Tree} {d : ℕ} → OuterBytes o p → LeftBytes alternative 124 l w → LeftBytes conjunction 38 m w' → Grammar factor v t d → StateBytes (given n l m t d o) (p ++ (w ++ (w' ++ (replicate n 33 ++ v))))
given_bytes n O L M g = having O L (conjoined M (denied n g))

closed_bytes : {o : Outer} {p v : List ℕ} {t : Tree} {d : ℕ} → OuterBytes o p → Grammar alternative v t d → StateBytes (closed o t d) (p ++ (v ++ (41 ∷ [])))
closed_bytes outermost g = sticking
closed_bytes {v = v} {t = t} {d = d} (inside {n = n} {l = l} {m = m} {o = o} {p = p} {w = w} {w' = w'} O L M) g =
    subst (λ (q : List ℕ). StateBytes (given n l m t (suc d) o) q) (simp append_assoc) (given_bytes n O L M (brackets g))

-- ---- one byte more

module _ (b n : ℕ) {l m : Left} {o : Outer} {p w w' : List ℕ} (O : OuterBytes o p) (L : LeftBytes alternative 124 l w) (M : LeftBytes conjunction 38 m w') where
  after-wants : (x : Bool) → eqb b 33 ≡ x → (y : Bool) → eqb b 40 ≡ y → (z : Bool) → leb 97 b ≡ z → (u : Bool) → leb b 104 ≡ u →
      StateBytes (pick x (wants (suc n) l m o) (pick y (wants 0 nothing nothing (bracket n l m o)) (pick z (pick u (given n l m (letter (b - 97)) 0 o) stuck) stuck))) ((p ++ (w ++ (w' ++ replicate n 33))) ++ (b ∷ []))
  after-wants true e y e₂ z e₃ u e₄ = rw (eqb-true b 33 e) (subst (λ (q : List ℕ). StateBytes (wants (suc n) l m o) q) (sym (simp (append_assoc, snoc, append-nil))) (wanting {n = suc n} O L M))
  after-wants false e true e₂ z e₃ u e₄ = rw (eqb-true b 40 e₂) (subst (λ (q : List ℕ). StateBytes (wants 0 nothing nothing (bracket n l m o)) q) (simp (append_assoc, append-nil)) (wanting {n = 0} (inside {n = n} O L M) absent absent))
  after-wants false e false e₂ true e₃ true e₄ =
      let h = leb-true 97 b e₃ in
      let k = leb-true b 104 e₄ in
      let f : 97 + (b - 97) ≡ b = omega arith in
      let g : Grammar factor (b ∷ []) (letter (b - 97)) 0 = subst (λ (j : ℕ). Grammar factor (j ∷ []) (letter (b - 97)) 0) f (one_letter (b - 97) (omega arith)) in
      subst (λ (q : List ℕ). StateBytes (given n l m (letter (b - 97)) 0 o) q) (sym (simp append_assoc)) (given_bytes n O L M g)
  after-wants false e false e₂ true e₃ false e₄ = sticking
  after-wants false e false e₂ false e₃ u e₄ = sticking

module _ (b : ℕ) {l : Left} {t : Tree} {d : ℕ} {o : Outer} {p w v : List ℕ} (O : OuterBytes o p) (L : LeftBytes alternative 124 l w) (g : Grammar conjunction v t d) where
  after-has : (x : Bool) → eqb b 38 ≡ x → (y : Bool) → eqb b 124 ≡ y → (z : Bool) → eqb b 41 ≡ z →
      StateBytes (pick x (wants 0 l (part t d) o) (pick y (wants 0 (part (or_tree l t) (deepest l d)) nothing o) (pick z (closed o (or_tree l t) (deepest l d)) stuck))) ((p ++ (w ++ v)) ++ (b ∷ []))
  after-has true e y e₂ z e₃ = rw (eqb-true b 38 e) (subst (λ (q : List ℕ). StateBytes (wants 0 l (part t d) o) q) (simp (append_assoc, append-nil)) (wanting {n = 0} O L (present g)))
  after-has false e true e₂ z e₃ = rw (eqb-true b 124 e₂) (subst (λ (q : List ℕ). StateBytes (wants 0 (part (or_tree l t) (deepest l d)) nothing o) q) (simp (append_assoc, append-nil)) (wanting {n = 0} O (present (disjoined L g)) absent))
  after-has false e false e₂ true e₃ = rw (eqb-true b 41 e₃) (subst (λ (q : List ℕ). StateBytes (closed o (or_tree l t) (deepest l d)) q) (simp append_assoc) (closed_bytes O (disjoined L g)))
  after-has false e false e₂ false e₃ = sticking

step_bytes : {st : State} {p : List ℕ} → StateBytes st p → (b : ℕ) → StateBytes (step st b) (p ++ (b ∷ []))
unfolding step
step_bytes (wanting {n = n} O L M) b = after-wants b n O L M (eqb b 33) refl (eqb b 40) refl (leb 97 b) refl (leb b 104) refl
step_bytes (having O L g) b = after-has b O L g (eqb b 38) refl (eqb b 124) refl (eqb b 41) refl
step_bytes sticking b = sticking

-- ---- the end

wrong_not : {A : Type 0} {t : Tree} {d : ℕ} → wrong ≡ expression t d → A
wrong_not e = let z : ◌≡◌ {A = ℕ} 0 1 = cc in absurd (omega arith)

retold : {w : List ℕ} {t u : Tree} {d e : ℕ} → Grammar alternative w t d → expression t d ≡ expression u e → Grammar alternative w u e
retold {w} {t} {u} {d} {e} g h = subst (λ (j : ℕ). Grammar alternative w u j) (same_expression h).1 (subst (λ (x : Tree). Grammar alternative w x d) (same_expression h).0 g)

finished_bytes : {st : State} {p : List ℕ} {t : Tree} {d : ℕ} → StateBytes st p → finished st ≡ expression t d → Grammar alternative p t d
finished_bytes (wanting O L M) e = wrong_not e
finished_bytes (having outermost L g) e = retold (disjoined L g) e
finished_bytes (having (inside O K M) L g) e = wrong_not e
finished_bytes sticking e = wrong_not e

ending_bytes : (s : List ℕ) {st : State} {p : List ℕ} {t : Tree} {d : ℕ} → StateBytes st p → ending s st ≡ expression t d → Grammar alternative (p ++ s) t d
unfolding ending
ending_bytes [] {p = p} r e = rw append-nil (finished_bytes r e)
ending_bytes (b ∷ s) {p = p} {t = t} {d = d} r e = subst (λ (q : List ℕ). Grammar alternative q t d) (append_assoc p (b ∷ []) s) (ending_bytes s (step_bytes r b) e)

pub sound : {s : List ℕ} {t : Tree} {d : ℕ} → reading s ≡ expression t d → Grammar alternative s t d
sound {s} e = ending_bytes s (wanting {n = 0} outermost absent absent) e
