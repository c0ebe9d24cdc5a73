-- Why each return of the readers is right. Assumes nothing.
use Rattle.std.proofs.Common.{◌≡◌, ℕ, suc, ◌+◌, ◌-◌, ◌<◌, ◌≤◌, max, Bool, true, false, ◌&&◌, eqb, ltb, leb, List, [], ◌∷◌, length, get_or, drop, sym, refl, ap, ◌∙◌, subst, add-one, arith, drop_of_length-le, get_or-drop, drop-cons, ltb-false, ltb-true, eq-eqb, ne_eqb, eqb-true, le-leb, leb-false, leb-true, Option, Some, None, option_map}
use lib.ListN.{get_or-eq_default}
use lib.Dec.{leb-zero}
use borrow.Author.Tests.{lt-leb, eqb-false}
use Rattle.basics.specs.Choice.{pick}
use Rattle.classes.specs.Trees.{Tree, letter, negation, both, either, meets}
use Rattle.classes.specs.Steps.Reader.{Left, nothing, part, Outer, bracket, State, wants, has, stuck, given, step, wrong, ending}
use Rattle.classes.specs.Steps.Parts.{denied_part, closed_part, operand, and_part, or_part, FactorRead, factor_at, no_factor, ConjunctionAt, ConjunctionRead, conjunction_at, no_conjunction, AlternativeAt, AlternativeRead, alternative_at, no_alternative}
use Rattle.classes.specs.Steps.Sets.{LetterSet}
use Rattle.classes.specs.Laws.Complete.{reads_not, reads_open, reads_letter, reads_and, reads_or, reads_close, joins}
use Rattle.classes.specs.declared.sets.ClassSet.{ClassSet}
use Rattle.classes.specs.declared.reader.Part.{Part}
use Rattle.classes.proofs.ClassSets.{met_not, met_and, met_or}

-- ---- places

-- the byte at a place, and what follows
pub next : (s : List ℕ) (at b : ℕ) (st : State) → at < length s → get_or s at 0 ≡ b → ending (drop at s) st ≡ ending (b ∷ drop (at + 1) s) st
next s at b st h e = rw (add-one, drop-cons s at 0 h, e) refl

pub last : (s : List ℕ) (at : ℕ) (st : State) → length s ≤ at → ending (drop at s) st ≡ ending [] st
last s at st h = rw (drop_of_length-le s h) refl

first : (s : List ℕ) (at b : ℕ) → (get_or s at 0 ≡ b → ⊥) → get_or (drop at s) 0 0 ≡ b → ⊥
first s at b h e = h (ap (λ (k : ℕ). get_or s k 0) (omega arith) ∙ sym (get_or-drop at s 0 0) ∙ e)

pub stays : (s : List ℕ) → ending s stuck ≡ wrong
unfolding ending step
stays [] = refl
stays (b ∷ s) = stays s

-- bytes that nothing goes on with
module _ (b : ℕ) (s : List ℕ) where
  no_factor_lem : (n : ℕ) (l m : Left) (o : Outer) → (b ≡ 33 → ⊥) → (b ≡ 40 → ⊥) → (97 ≤ b → b ≤ 104 → ⊥) → ending (b ∷ s) (wants n l m o) ≡ wrong
  unfolding ending step
  no_factor_lem n l m o h k e = simp (ne_eqb b 33 h, ne_eqb b 40 k) (go (leb 97 b) refl (leb b 104) refl)
    where
      go : (x : Bool) → leb 97 b ≡ x → (y : Bool) → leb b 104 ≡ y → ending s (pick x (pick y (given n l m (letter (b - 97)) 0 o) stuck) stuck) ≡ wrong
      go true p true q = absurd (e (leb-true 97 b p) (leb-true b 104 q))
      go true p false q = stays s
      go false p y q = stays s

  no_operator : (l : Left) (t : Tree) (d : ℕ) (o : Outer) → (b ≡ 38 → ⊥) → (b ≡ 124 → ⊥) → (b ≡ 41 → ⊥) → ending (b ∷ s) (has l t d o) ≡ wrong
  unfolding ending step
  no_operator l t d o h k e = simp (ne_eqb b 38 h, ne_eqb b 124 k, ne_eqb b 41 e) (stays s)

-- ---- depths

-- of two sides
deeper : (d e room : ℕ) (x y : Bool) → leb d room ≡ x → leb e room ≡ y → leb (max d e) room ≡ x && y
deeper d e room true true p q = let h = leb-true d room p in let k = leb-true e room q in le-leb (max d e) room (omega arith)
deeper d e room true false p q = let k = leb-false e room q in lt-leb (max d e) room (omega arith)
deeper d e room false y p q = let h = leb-false d room p in lt-leb (max d e) room (omega arith)

-- inside brackets
inside_fits : (d room : ℕ) (f : Bool) → leb d (room - 1) ≡ f → leb (suc d) room ≡ ltb 0 room && f
inside_fits d room f e = go (ltb 0 room) refl f e
  where
    go : (x : Bool) → ltb 0 room ≡ x → (f : Bool) → leb d (room - 1) ≡ f → leb (suc d) room ≡ x && f
    go true p true q = let h = ltb-true 0 room p in let k = leb-true d (room - 1) q in le-leb (suc d) room (omega arith)
    go true p false q = let h = ltb-true 0 room p in let k = leb-false d (room - 1) q in lt-leb (suc d) room (omega arith)
    go false p f q = let h = ltb-false 0 room p in lt-leb (suc d) room (omega arith)

-- ---- where an operator's right side starts

module _ (s : List ℕ) (i operator : ℕ) where
  starts : (x y : Bool) → ltb i (length s) ≡ x → eqb (get_or s i 0) operator ≡ y → {k : ℕ} → pick x (pick y (Some (i + 1)) None) None ≡ Some k → (i < length s) × (get_or s i 0 ≡ operator) × (i + 1 ≡ k)
  starts true true e f p = (ltb-true i (length s) e, eqb-true (get_or s i 0) operator f, cc)
  starts true false e f p = absurd (cc)
  starts false y e f p = absurd (cc)

  pub starts_not : 0 < operator → pick (ltb i (length s)) (pick (eqb (get_or s i 0) operator) (Some (i + 1)) None) None ≡ None → get_or s i 0 ≡ operator → ⊥
  starts_not h p e = go (ltb i (length s)) refl (rw (eq-eqb (get_or s i 0) operator e) at p)
    where
      go : (x : Bool) → ltb i (length s) ≡ x → pick x (Some (i + 1)) None ≡ None → ⊥
      go true q r = cc
      go false q r =
          let z : get_or s i 0 ≡ 0 = get_or-eq_default s 0 (ltb-false i (length s) q) in
          omega arith

-- ---- a factor

opens : (s : List ℕ) (at : ℕ) → at < length s → get_or s at 0 ≡ 40 → (n : ℕ) (l m : Left) (o : Outer) → ending (drop at s) (wants n l m o) ≡ ending (drop (at + 1) s) (wants 0 nothing nothing (bracket n l m o))
opens s at h e n l m o = next s at 40 (wants n l m o) h e ∙ reads_open (drop (at + 1) s) n l m o

module _ {s : List ℕ} {at room : ℕ} where
  pub factor_end : length s ≤ at → FactorRead s at room None
  unfolding ending
  factor_end h = no_factor (λ n l m o. last s at (wants n l m o) h)

  -- a byte that begins no factor
  module _ {b : ℕ} (h : at < length s) (e : b ≡ get_or s at 0) where
    factor_other : (b ≡ 33 → ⊥) → (b ≡ 40 → ⊥) → (97 ≤ b → b ≤ 104 → ⊥) → FactorRead s at room None
    factor_other x y z = no_factor (λ n l m o. next s at b (wants n l m o) h (sym e) ∙ no_factor_lem b (drop (at + 1) s) n l m o x y z)

    pub factor_low : (b ≡ 33 → ⊥) → (b ≡ 40 → ⊥) → b < 97 → FactorRead s at room None
    factor_low x y z = factor_other x y (λ low high. omega arith)

    pub factor_high : 104 < b → FactorRead s at room None
    factor_high z = factor_other (omega arith) (omega arith) (λ low high. omega arith)

    pub factor_letter : {v : ClassSet} → 97 ≤ b → b ≤ 104 → LetterSet (b - 97) v → FactorRead s at room (Some (record { end = at + 1; set = v; fits = true }))
    unfolding meets
    factor_letter low high v = factor_at (record {
      later = omega arith;
      within = omega arith;
      tree = letter (b - 97);
      depth = 0;
      value = record { entry = λ c k. sym (v.entry c k) };
      fits = leb-zero room;
      found = λ n l m o. next s at b (wants n l m o) h (sym e) ∙ reads_letter (drop (at + 1) s) n l m o b low high;
    })

  pub factor_not : {p : Option Part} → at < length s → get_or s at 0 ≡ 33 → FactorRead s (at + 1) room p → FactorRead s at room (option_map denied_part p)
  factor_not h e (factor_at {p = p} r) = factor_at {p = denied_part p} (record {
    later = omega (arith, r.later);
    within = r.within;
    tree = negation r.tree;
    depth = r.depth;
    value = met_not r.value;
    fits = r.fits;
    found = λ n l m o. next s at 33 (wants n l m o) h e ∙ reads_not (drop (at + 1) s) n l m o ∙ r.found (suc n) l m o;
  })
  factor_not h e (no_factor r) = no_factor (λ n l m o. next s at 33 (wants n l m o) h e ∙ reads_not (drop (at + 1) s) n l m o ∙ r (suc n) l m o)

  module _ (h : at < length s) (e : get_or s at 0 ≡ 40) where
    module _ {p : Part} (r : AlternativeAt s (at + 1) (room - 1) p) (ends : get_or s p.end 0 ≡ 124 → ⊥) where
      closing : (x : Bool) → ltb p.end (length s) ≡ x → (y : Bool) → eqb (get_or s p.end 0) 41 ≡ y
          → FactorRead s at room (pick x (pick y (Some (record { end = p.end + 1; set = p.set; fits = ltb 0 room && p.fits })) None) None)
      unfolding ending
      closing true q true x = let k = ltb-true p.end (length s) q in factor_at (record {
        later = omega (arith, r.later);
        within = omega arith;
        tree = r.tree;
        depth = suc r.depth;
        value = r.value;
        fits = inside_fits r.depth room p.fits r.fits;
        found = λ n l m o.
            opens s at h e n l m o ∙ r.found (bracket n l m o)
            ∙ next s p.end 41 _ k (eqb-true (get_or s p.end 0) 41 x)
            ∙ reads_close (drop (p.end + 1) s) nothing r.tree r.depth (bracket n l m o);
      })
      closing true q false x = no_factor (λ n l m o.
          opens s at h e n l m o ∙ r.found (bracket n l m o)
          ∙ next s p.end (get_or s p.end 0) _ (ltb-true p.end (length s) q) refl
          ∙ no_operator (get_or s p.end 0) (drop (p.end + 1) s) nothing r.tree r.depth (bracket n l m o) r.ends ends (eqb-false (get_or s p.end 0) 41 x))
      closing false q y x = no_factor (λ n l m o.
          opens s at h e n l m o ∙ r.found (bracket n l m o) ∙ last s p.end _ (ltb-false p.end (length s) q))

    pub factor-brackets : {p : Part} → AlternativeRead s (at + 1) (room - 1) (Some p) → operand s (Some p) 124 ≡ None → FactorRead s at room (closed_part s p room)
    factor-brackets {p} (alternative_at r) q = closing r (starts_not s p.end 124 (omega arith) q) (ltb p.end (length s)) refl (eqb (get_or s p.end 0) 41) refl

    pub factor-empty : AlternativeRead s (at + 1) (room - 1) None → FactorRead s at room None
    factor-empty (no_alternative r) = no_factor (λ n l m o. opens s at h e n l m o ∙ r (bracket n l m o))

-- ---- a conjunction

module _ {s : List ℕ} {at room : ℕ} where
  pub conjunction_one : {p : Option Part} → FactorRead s at room p → ConjunctionRead s at room p
  conjunction_one (factor_at r) = conjunction_at (record {
    later = r.later;
    within = r.within;
    tree = r.tree;
    depth = r.depth;
    value = r.value;
    fits = r.fits;
    found = λ l o. r.found 0 l nothing o;
  })
  conjunction_one (no_factor r) = no_conjunction (λ l o. r 0 l nothing o)

  module _ {p : Part} (r : ConjunctionAt s at room p) (h : p.end < length s) (e : get_or s p.end 0 ≡ 38) where
    and_on : (l : Left) (o : Outer) → ending (drop at s) (wants 0 l nothing o) ≡ ending (drop (p.end + 1) s) (wants 0 l (part r.tree r.depth) o)
    and_on l o = r.found l o ∙ next s p.end 38 _ h e ∙ reads_and (drop (p.end + 1) s) l r.tree r.depth o

    and_joined : {q : Option Part} → FactorRead s (p.end + 1) room q → ConjunctionRead s at room (option_map (and_part p) q)
    and_joined (factor_at {p = q} x) = conjunction_at {p = and_part p q} (record {
      later = omega (arith, r.later, x.later);
      within = x.within;
      tree = both r.tree x.tree;
      depth = max r.depth x.depth;
      value = met_and r.value x.value;
      fits = deeper r.depth x.depth room p.fits q.fits r.fits x.fits;
      found = λ l o. and_on l o ∙ x.found 0 l (part r.tree r.depth) o;
    })
    and_joined (no_factor x) = no_conjunction (λ l o. and_on l o ∙ x 0 l (part r.tree r.depth) o)

  pub conjunction_more : {p : Part} {q : Option Part} {k : ℕ} → ConjunctionRead s at room (Some p) → operand s (Some p) 38 ≡ Some k → FactorRead s k room q → ConjunctionRead s at room (option_map (and_part p) q)
  conjunction_more {p} {q} (conjunction_at r) e x =
      let z = starts s p.end 38 (ltb p.end (length s)) (eqb (get_or s p.end 0) 38) refl refl e in
      and_joined r z.0 z.1 (subst (λ (a : ℕ). FactorRead s a room q) (sym z.2) x)

-- ---- an alternative

module _ {s : List ℕ} {at room : ℕ} where
  pub alternative_one : {p : Option Part} → ConjunctionRead s at room p → operand s p 38 ≡ None → AlternativeRead s at room p
  alternative_one (conjunction_at {p = p} r) e = alternative_at (record {
    later = r.later;
    within = r.within;
    ends = starts_not s p.end 38 (omega arith) e;
    tree = r.tree;
    depth = r.depth;
    value = r.value;
    fits = r.fits;
    found = λ o. r.found nothing o;
  })
  alternative_one (no_conjunction r) e = no_alternative (λ o. r nothing o)

  module _ {p : Part} (r : AlternativeAt s at room p) (h : p.end < length s) (e : get_or s p.end 0 ≡ 124) where
    or_on : (o : Outer) → ending (drop at s) (wants 0 nothing nothing o) ≡ ending (drop (p.end + 1) s) (wants 0 (part r.tree r.depth) nothing o)
    or_on o = r.found o ∙ next s p.end 124 _ h e ∙ reads_or (drop (p.end + 1) s) nothing r.tree r.depth o

    or_joined : {q : Option Part} → ConjunctionRead s (p.end + 1) room q → operand s q 38 ≡ None → AlternativeRead s at room (option_map (or_part p) q)
    or_joined (conjunction_at {p = q} x) y = alternative_at {p = or_part p q} (record {
      later = omega (arith, r.later, x.later);
      within = x.within;
      ends = starts_not s q.end 38 (omega arith) y;
      tree = either r.tree x.tree;
      depth = max r.depth x.depth;
      value = met_or r.value x.value;
      fits = deeper r.depth x.depth room p.fits q.fits r.fits x.fits;
      found = λ o.
          or_on o ∙ x.found (part r.tree r.depth) o
          ∙ joins (drop q.end s) (part r.tree r.depth) x.tree x.depth o (first s q.end 38 (starts_not s q.end 38 (omega arith) y));
    })
    or_joined (no_conjunction x) y = no_alternative (λ o. or_on o ∙ x (part r.tree r.depth) o)

  pub alternative_more : {p : Part} {q : Option Part} {k : ℕ} → AlternativeRead s at room (Some p) → operand s (Some p) 124 ≡ Some k → ConjunctionRead s k room q → operand s q 38 ≡ None → AlternativeRead s at room (option_map (or_part p) q)
  alternative_more {p} {q} (alternative_at r) e x y =
      let z = starts s p.end 124 (ltb p.end (length s)) (eqb (get_or s p.end 0) 124) refl refl e in
      or_joined r z.0 z.1 (subst (λ (a : ℕ). ConjunctionRead s a room q) (sym z.2) x) y

-- ---- what follows an operator starts later, and there is less of it

-- a part ends past its start, and within the bytes
pub record Behind (s : List ℕ) (at : ℕ) (p : Part) : Type 0 where
  pub later : at < p.end
  pub within : p.end ≤ length s

module _ {s : List ℕ} {at room : ℕ} {p : Part} where
  pub factor_behind : FactorRead s at room (Some p) → Behind s at p
  factor_behind (factor_at r) = record { later = r.later; within = r.within }

  pub conjunction_behind : ConjunctionRead s at room (Some p) → Behind s at p
  conjunction_behind (conjunction_at r) = record { later = r.later; within = r.within }

  pub alternative_behind : AlternativeRead s at room (Some p) → Behind s at p
  alternative_behind (alternative_at r) = record { later = r.later; within = r.within }

-- the operand after a part starts behind it
pub operand_behind : (s : List ℕ) (operator : ℕ) (p : Part) {k : ℕ} → operand s (Some p) operator ≡ Some k → (k ≡ p.end + 1) × (k ≤ length s)
operand_behind s operator p {k} e =
    let z = starts s p.end operator (ltb p.end (length s)) (eqb (get_or s p.end 0) operator) refl refl e in
    (omega (arith, z.2), omega (arith, z.0, z.2))

pub ruleset readings = (factor_end, factor_low, factor_high, factor_letter, factor_not, factor-brackets, factor-empty, conjunction_one, conjunction_more, alternative_one, alternative_more)
