-- The rows of `Branches` are enumerated rightly: those from a slot on, and, where stops and last places part them rightly, all occurrences.
use Prim.Native.Nat.{ℕ, zero, suc, ◌+◌, ◌-◌, ◌≤◌, ◌<◌}
use Rattle.std.proofs.Common.{arith, sym, ◌∙◌, length-append}
use Rattle.std.specs.Prelude.{◌≡◌, refl, Bool, true, false, ◌&&◌}
use Rattle.std.proofs.Math.Path.{ap}
use Rattle.std.proofs.Math.Bool.{and-eq-true_iff}
use mathlib.Core.List.Memᴰ
use mathlib.Core.List.{List, [], ◌∷◌, map, Memᴰ}
use Rattle.std.proofs.Math.ListN.{length}
use Rattle.std.proofs.lemmas.List.{length-map}
use Rattle.std.proofs.Math.Dec.{leb, eqb}
use borrow.Author.Tests.{leb-true, le-leb, eqb-true, eq-eqb}
use Rattle.basics.specs.Choice.{only, when}
use Rattle.basics.specs.Collections.{Every, Pairwise, none, more}
use Rattle.basics.specs.Sums.{total, gather}
use Rattle.basics.specs.Laws.Collections.{every_of, every_map, every-mem, every_both, pairwise_append, select-every, select_keeps, select_pairwise, select-mem, map-every, map_pairwise}
use Rattle.basics.specs.Laws.Sums.{total_same, gather-mem, gather-every}
use Rattle.pattern.specs.declared.Pattern.{Pattern}
use Rattle.pattern.specs.Patterns.{slot_at}
use Rattle.matching.specs.Occurrence.{View, OccursIn, at}
use Rattle.matching.specs.Branches.{stands, branches, ways}
use Rattle.matching.specs.Occurrences.{Lex, here, after, places, occurrences_in, starting_in}
use Rattle.matching.proofs.Laws.Enumeration.{places-mem, places_rise, occurrences-occur, occurrences_iff, occurrences_lex}
use Rattle.matching.proofs.Laws.Ordering.{lex_unique}

only_every : {A : Type 0} {P : A → Type 0} (b : Bool) {xs : List A} → (b ≡ true → Every P xs) → Every P (only b xs)
unfolding only
only_every true h = h refl
only_every false h = none

only_pairwise : {A : Type 0} {R : A → A → Type 0} (b : Bool) {xs : List A} → Pairwise R xs → Pairwise R (only b xs)
unfolding only
only_pairwise true h = h
only_pairwise false h = none

only_mem : {A : Type 0} {b : Bool} {x : A} {xs : List A} → b ≡ true → Memᴰ x xs → Memᴰ x (only b xs)
unfolding only
only_mem e m = rw e m

length_only : {A : Type 0} (b : Bool) (xs : List A) → length (only b xs) ≡ when b (length xs)
unfolding only when
length_only true xs = refl
length_only false xs = refl

-- the row starts at the place p
pub data Starts (p : ℕ) : List ℕ → Type 0 where
  starts : {r : List ℕ} → Starts p (p ∷ r)

starts_at_lem : {p : ℕ} {r : List ℕ} → Starts p r → at r 0 ≡ p
starts_at_lem starts = refl

starts_lex : {p q : ℕ} {r s : List ℕ} → p < q → Starts p r → Starts q s → Lex r s
starts_lex l starts starts = here l

module _ (g : ℕ → List (List ℕ)) (start : (p : ℕ) → Every (Starts p) (g p)) (rise : (p : ℕ) → Pairwise Lex (g p)) where
  pub gather_lex : {ps : List ℕ} → Pairwise ◌<◌ ps → Pairwise Lex (gather g ps)
  unfolding gather
  gather_lex none = none
  gather_lex (more {x = p} e h) =
      pairwise_append (rise p) (gather_lex h)
      (every_map (λ r a. gather-every g (λ q l. every_map (λ s b. starts_lex l a b) (start q)) e) (start p))

length-gather : {A : Type 0} (g : ℕ → List A) (v : ℕ → ℕ) (n p : ℕ) → ((q : ℕ) → length (g q) ≡ v q) → length (gather g (places p n)) ≡ total n v p
unfolding gather total places
length-gather g v zero p h = refl
length-gather g v (suc n) p h = omega (arith, length-append (g p) (gather g (places (suc p) n)), h p, length-gather g v n (suc p) h)

places_between : (p n : ℕ) → Every (λ q. (p ≤ q) × (q < p + n)) (places p n)
unfolding places
places_between p zero = none
places_between p (suc n) = more {x = p} (omega arith, omega arith) (every_map (λ q h. (omega arith, omega arith)) (places_between (suc p) n))

module _ (f : Pattern) (v : View) (stop : ℕ → ℕ) (from : ℕ) where
  -- the rows of the slot j and the k after it, the last not before `from`
  pub data Part : ℕ → ℕ → List ℕ → Type 0 where
    end : {j p : ℕ} → stands f v stop from j p ≡ true → from ≤ p → Part zero j (p ∷ [])
    step : {k j p : ℕ} {r : List ℕ} → stands f v stop from j p ≡ true → p + (slot_at f (suc j)).low + 1 ≤ at r 0 → at r 0 ≤ p + (slot_at f (suc j)).high + 1
        → Part k (suc j) r → Part (suc k) j (p ∷ r)

  pub length-branches : (k j p : ℕ) → length (branches f v stop from k j p) ≡ ways f v stop from k j p
  unfolding branches ways
  length-branches zero j p = length_only (stands f v stop from j p && leb from p) ((p ∷ []) ∷ [])
  length-branches (suc k) j p =
      let lo = (slot_at f (suc j)).low in
      let hi = (slot_at f (suc j)).high in
      let rows = gather (branches f v stop from k (suc j)) (places (p + lo + 1) (hi + 1 - lo)) in
      length_only (stands f v stop from j p) (map (λ r. p ∷ r) rows)
      ∙ ap (when (stands f v stop from j p)) (length-map rows (λ r. p ∷ r) ∙ length-gather (branches f v stop from k (suc j)) (ways f v stop from k (suc j)) (hi + 1 - lo) (p + lo + 1) (length-branches k (suc j)))

  branches_start : (k j p : ℕ) → Every (Starts p) (branches f v stop from k j p)
  unfolding branches
  branches_start zero j p = only_every (stands f v stop from j p && leb from p) (λ e. more starts none)
  branches_start (suc k) j p = only_every (stands f v stop from j p) (λ e. map-every (λ r. p ∷ r) {P = λ r. Unit {0}} (λ r u. starts)
      (every_of (λ r. tt) (gather (branches f v stop from k (suc j)) (places (p + (slot_at f (suc j)).low + 1) ((slot_at f (suc j)).high + 1 - (slot_at f (suc j)).low)))))

  branches_lex : (k j p : ℕ) → Pairwise Lex (branches f v stop from k j p)
  unfolding branches
  branches_lex zero j p = only_pairwise (stands f v stop from j p && leb from p) (more none none)
  branches_lex (suc k) j p =
      only_pairwise (stands f v stop from j p)
      (map_pairwise (λ r. p ∷ r) (λ r s l. after l) (gather_lex (branches f v stop from k (suc j)) (branches_start k (suc j)) (branches_lex k (suc j)) (places_rise _ _)))

  branches-part : (k j p : ℕ) → Every (Part k j) (branches f v stop from k j p)
  unfolding branches
  branches-part zero j p = only_every (stands f v stop from j p && leb from p) (λ e. let b = (and-eq-true_iff (stands f v stop from j p) (leb from p)).0 e in more (end b.0 (leb-true from p b.1)) none)
  branches-part (suc k) j p =
      let lo = (slot_at f (suc j)).low in
      let hi = (slot_at f (suc j)).high in
      only_every (stands f v stop from j p) (λ e.
      map-every (λ r. p ∷ r) {P = λ r. Part k (suc j) r × (p + lo + 1 ≤ at r 0) × (at r 0 ≤ p + hi + 1)} (λ r h. step e h.1 h.2 h.0)
      (gather-every (branches f v stop from k (suc j))
      (λ q h. every_map (λ r b. (b.0, omega (arith, starts_at_lem b.1), omega (arith, starts_at_lem b.1))) (every_both (branches-part k (suc j) q) (branches_start k (suc j) q)))
      (places_between (p + lo + 1) (hi + 1 - lo))))

  part_branch : {k j : ℕ} {r : List ℕ} → Part k j r → Memᴰ r (branches f v stop from k j (at r 0))
  unfolding branches
  part_branch (end {j = j} {p = p} e h) = only_mem ((and-eq-true_iff (stands f v stop from j p) (leb from p)).1 (e, le-leb from p h)) (Memᴰ.head refl)
  part_branch (step {k = k} {j = j} {p = p} {r = r} e l h q) =
      only_mem e (Memᴰ.map (λ r. p ∷ r) (gather-mem (branches f v stop from k (suc j)) (places-mem _ _ (at r 0) l (omega arith)) (part_branch q)))

  -- ---- what such a row is, slot by slot

  pub part-size : {k j : ℕ} {r : List ℕ} → Part k j r → length r ≡ suc k
  part-size (end e h) = refl
  part-size (step e l h q) = ap suc (part-size q)

  pub part-stands : {k j : ℕ} {r : List ℕ} → Part k j r → (i : ℕ) → i ≤ k → stands f v stop from (j + i) (at r i) ≡ true
  part-stands (end {j = j} e h) zero l = let z : j + 0 ≡ j = omega arith in rw z e
  part-stands (end e h) (suc i) l = absurd (omega arith)
  part-stands (step {j = j} e a b q) zero l = let z : j + 0 ≡ j = omega arith in rw z e
  part-stands (step {j = j} e a b q) (suc i) l = let z : j + suc i ≡ suc j + i = omega arith in rw z (part-stands q i (omega arith))

  pub part-gap : {k j : ℕ} {r : List ℕ} → Part k j r → (i : ℕ) → i < k
      → (at r i + (slot_at f (j + i + 1)).low + 1 ≤ at r (suc i)) × (at r (suc i) ≤ at r i + (slot_at f (j + i + 1)).high + 1)
  part-gap (end e h) i l = absurd (omega arith)
  part-gap (step {j = j} e a b q) zero l = let z : j + 0 + 1 ≡ suc j = omega arith in rw z (a, b)
  part-gap (step {j = j} e a b q) (suc i) l = let z : j + suc i + 1 ≡ suc j + i + 1 = omega arith in rw z (part-gap q i (omega arith))

  pub part_last : {k j : ℕ} {r : List ℕ} → Part k j r → from ≤ at r k
  part_last (end e h) = h
  part_last (step e a b q) = part_last q

  pub part_of : (k j : ℕ) (r : List ℕ) → length r ≡ suc k → ((i : ℕ) → i ≤ k → stands f v stop from (j + i) (at r i) ≡ true)
      → ((i : ℕ) → i < k → (at r i + (slot_at f (j + i + 1)).low + 1 ≤ at r (suc i)) × (at r (suc i) ≤ at r i + (slot_at f (j + i + 1)).high + 1))
      → from ≤ at r k → Part k j r
  part_of zero j [] e w g l = absurd (omega arith)
  part_of zero j (p ∷ []) e w g l = let z : j + 0 ≡ j = omega arith in end (rw z at (w 0 (omega arith))) l
  part_of zero j (p ∷ q ∷ r) e w g l = absurd (omega arith)
  part_of (suc k) j [] e w g l = absurd (omega arith)
  part_of (suc k) j (p ∷ r) e w g l =
      let z : j + 0 ≡ j = omega arith in
      let y : j + 0 + 1 ≡ suc j = omega arith in
      let b = rw y at (g 0 (omega arith)) in
      step (rw z at (w 0 (omega arith))) b.0 b.1
      (part_of k (suc j) r (omega arith)
      (λ i h. let x : suc j + i ≡ j + suc i = omega arith in rw x (w (suc i) (omega arith)))
      (λ i h. let x : suc j + i + 1 ≡ j + suc i + 1 = omega arith in rw x (g (suc i) (omega arith)))
      l)

-- ---- all occurrences, depth first

-- the stop of each slot, and the least last place, for each first place
module _ (f : Pattern) (v : View) (stops : ℕ → ℕ → ℕ) (froms : ℕ → ℕ) where
  -- the rows that start at the place p
  unfoldable pub tree : ℕ → List (List ℕ)
  tree p = branches f v (stops p) (froms p) (f.count - 1) 0 p

  -- those of every place
  unfoldable pub forest : List (List ℕ)
  forest = gather tree (places 1 v.places)

  -- the two say of each row whether it is an occurrence
  pub record Covers : Type 0 where
    pub into : (r : List ℕ) → OccursIn f v r → Part f v (stops (at r 0)) (froms (at r 0)) (f.count - 1) 0 r × (1 ≤ at r 0) × (at r 0 ≤ v.places)
    pub back : (r : List ℕ) → Part f v (stops (at r 0)) (froms (at r 0)) (f.count - 1) 0 r → 1 ≤ at r 0 → at r 0 ≤ v.places → OccursIn f v r

  module _ (covers : Covers) where
    tree_start : (p : ℕ) → Every (Starts p) (tree p)
    unfolding tree
    tree_start p = branches_start f v (stops p) (froms p) (f.count - 1) 0 p

    forest_lex : Pairwise Lex forest
    unfolding forest tree
    forest_lex = gather_lex tree tree_start (λ p. branches_lex f v (stops p) (froms p) (f.count - 1) 0 p) (places_rise 1 v.places)

    tree-occurs : (p : ℕ) → (1 ≤ p) × (p < 1 + v.places) → Every (OccursIn f v) (tree p)
    unfolding tree
    tree-occurs p h =
        every_map
        (λ r b. let e = starts_at_lem b.1 in covers.back r (rw e b.0) (omega arith) (omega arith))
        (every_both (branches-part f v (stops p) (froms p) (f.count - 1) 0 p) (tree_start p))

    pub occurrences-forest : occurrences_in f v ≡ forest
    unfolding forest tree
    occurrences-forest =
        lex_unique (occurrences_lex f v) forest_lex
        (λ r m. let o = covers.into r ((occurrences_iff f v r).0 m) in gather-mem tree (places-mem 1 v.places (at r 0) o.1 (omega arith)) (part_branch f v (stops (at r 0)) (froms (at r 0)) o.0))
        (λ r m. (occurrences_iff f v r).1 (every-mem (gather-every tree tree-occurs (places_between 1 v.places)) m))

    pub count-forest : length (occurrences_in f v) ≡ total v.places (λ p. ways f v (stops p) (froms p) (f.count - 1) 0 p) 1
    unfolding forest tree
    count-forest =
        ap length occurrences-forest
        ∙ length-gather tree (λ p. ways f v (stops p) (froms p) (f.count - 1) 0 p) v.places 1 (λ p. length-branches f v (stops p) (froms p) (f.count - 1) 0 p)

    -- those that start at a place, and their number
    module _ (p : ℕ) (one : 1 ≤ p) (inside : p ≤ v.places) where
      pub starting-tree : starting_in f v p ≡ tree p
      unfolding starting_in tree
      starting-tree =
          lex_unique (select_pairwise (λ r. eqb (at r 0) p) (occurrences_lex f v)) (branches_lex f v (stops p) (froms p) (f.count - 1) 0 p)
          (λ r m.
          let e = eqb-true (at r 0) p (every-mem (select-every {P = λ r. eqb (at r 0) p ≡ true} (λ r. eqb (at r 0) p) (λ r h. h) (occurrences_in f v)) m) in
          let o = covers.into r (every-mem (select_keeps (λ r. eqb (at r 0) p) (occurrences-occur f v)) m) in
          rw e at (part_branch f v (stops (at r 0)) (froms (at r 0)) o.0))
          (λ r m.
          let e = starts_at_lem (every-mem (tree_start p) m) in
          select-mem (λ r. eqb (at r 0) p) ((occurrences_iff f v r).1 (every-mem (tree-occurs p (one, omega arith)) m)) (eq-eqb (at r 0) p e))

      pub count-starting : length (starting_in f v p) ≡ ways f v (stops p) (froms p) (f.count - 1) 0 p
      unfolding tree
      count-starting = ap length starting-tree ∙ length-branches f v (stops p) (froms p) (f.count - 1) 0 p

    -- the occurrences are those that start at each place
    pub count-places : length (occurrences_in f v) ≡ total v.places (λ p. length (starting_in f v p)) 1
    count-places =
        count-forest
        ∙ total_same v.places (λ p. ways f v (stops p) (froms p) (f.count - 1) 0 p) (λ p. length (starting_in f v p)) 1 1 (λ i h. sym (count-starting (1 + i) (omega arith) (omega arith)))
