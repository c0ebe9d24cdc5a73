-- The list of all occurrences: its members are the occurrences, in strict lexicographic order.
use Rattle.std.specs.Prelude.{ℕ, zero, suc, ◌+◌, ◌≤◌, ◌<◌, ◌≡◌, refl, ◌↔◌, length, get_or}
use Rattle.std.proofs.Math.Decide.{ℕ_discrete}
use Rattle.std.proofs.Common.{arith, ap, ◌∙◌}
use mathlib.Core.List.Memᴰ
use mathlib.Core.List.{List, [], ◌∷◌, map, Memᴰ}
use Rattle.std.proofs.lemmas.List.{length-map}
use Rattle.pattern.specs.declared.Pattern.{Pattern}
use Rattle.matching.specs.Occurrence.{View, OccursIn, at}
use Rattle.basics.specs.Collections.{Every, Pairwise, none, more}
use Rattle.basics.specs.Sums.{total, sum}
use Rattle.matching.specs.Occurrences.{occurs_in, places, extend, rows, Lex, here, after, occurrences_in}
use Rattle.basics.specs.Laws.Collections.{every_of, every_map, every-mem, every_append, pairwise_append, map_at, map-every, map_pairwise, select-every, select_pairwise, select-mem}
use Rattle.matching.proofs.Laws.Tests.{occurs_iff}

pub places-mem : (p n q : ℕ) → p ≤ q → q < p + n → Memᴰ q (places p n)
unfolding places
places-mem p zero q l h = absurd (omega arith)
places-mem p (suc n) q l h = elim (ℕ_discrete q p) [ yes e ↦ Memᴰ.head e | no e ↦ Memᴰ.tail (places-mem (suc p) n q (omega arith) (omega arith)) ]

pub places-length : (p n : ℕ) → length (places p n) ≡ n
unfolding places
places-length p zero = refl
places-length p (suc n) = ap suc (places-length (suc p) n)

pub places_at : (p n i : ℕ) → i < n → get_or (places p n) i 0 ≡ p + i
unfolding places
places_at p zero i h = absurd (omega arith)
places_at p (suc n) zero h = omega arith
places_at p (suc n) (suc i) h = omega (arith, places_at (suc p) n i (omega arith))

-- a number for each of the places
module _ (v : ℕ → ℕ) (p n : ℕ) where
  pub each_length : length (map v (places p n)) ≡ n
  each_length = length-map (places p n) v ∙ places-length p n

  pub each_at : (i : ℕ) → i < n → get_or (map v (places p n)) i 0 ≡ v (p + i)
  each_at i h = map_at v (places p n) 0 0 i (omega (arith, places-length p n)) ∙ ap v (places_at p n i h)

pub places-sum : (v : ℕ → ℕ) (p n : ℕ) → sum (map v (places p n)) ≡ total n v p
unfolding sum total places
places-sum v p zero = refl
places-sum v p (suc n) = ap (λ (k : ℕ). v p + k) (places-sum v (suc p) n)

extend-mem : {p : ℕ} {ps r : List ℕ} {R : List (List ℕ)} → Memᴰ p ps → Memᴰ r R → Memᴰ (p ∷ r) (extend ps R)
unfolding extend
extend-mem {R} (Memᴰ.head {x = q} {xs = ps} e) m = rw e (Memᴰ.append_left (extend ps R) (Memᴰ.map (λ r. q ∷ r) m))
extend-mem {R} (Memᴰ.tail {x = q} n) m = Memᴰ.append_right (map (λ r. q ∷ r) R) (extend-mem n m)

rows-mem : (m n : ℕ) (r : List ℕ) → length r ≡ m → ((j : ℕ) → j < m → (1 ≤ at r j) × (at r j ≤ n)) → Memᴰ r (rows m n)
unfolding rows
rows-mem zero n [] e h = Memᴰ.head refl
rows-mem zero n (p ∷ r) e h = absurd (omega arith)
rows-mem (suc m) n [] e h = absurd (omega arith)
rows-mem (suc m) n (p ∷ r) e h =
    let b : (1 ≤ p) × (p ≤ n) = h 0 (omega arith) in
    extend-mem (places-mem 1 n p (omega arith) (omega arith)) (rows-mem m n r (omega arith) (λ j l. h (suc j) (omega arith)))

places_past : (p q n : ℕ) → p < q → Every (λ x. p < x) (places q n)
unfolding places
places_past p q zero l = none
places_past p q (suc n) l = more l (places_past p (suc q) n (omega arith))

pub places_rise : (p n : ℕ) → Pairwise ◌<◌ (places p n)
unfolding places
places_rise p zero = none
places_rise p (suc n) = more (places_past p (suc p) n (omega arith)) (places_rise (suc p) n)

extend-every : {P : List ℕ → Type 0} {ps : List ℕ} → Every (λ p. (r : List ℕ) → P (p ∷ r)) ps → (R : List (List ℕ)) → Every P (extend ps R)
unfolding extend
extend-every none R = none
extend-every (more {x = p} h e) R = every_append (map-every (λ r. p ∷ r) (λ r q. q) (every_of h R)) (extend-every e R)

extend_lex : {ps : List ℕ} {R : List (List ℕ)} → Pairwise ◌<◌ ps → Pairwise Lex R → Pairwise Lex (extend ps R)
unfolding extend
extend_lex none q = none
extend_lex {R} (more {x = p} e l) q =
    pairwise_append (map_pairwise (λ r. p ∷ r) (λ r s x. after x) q) (extend_lex l q)
    (map-every (λ r. p ∷ r) (λ r k. k) (every_of (λ r. extend-every (every_map (λ x h s. here h) e) R) R))

rows_lex : (m n : ℕ) → Pairwise Lex (rows m n)
unfolding rows
rows_lex zero n = more none none
rows_lex (suc m) n = extend_lex (places_rise 1 n) (rows_lex m n)

-- ---- all occurrences: a row is a member exactly if it occurs, and the list rises strictly, so that each row stands there once

pub occurrences-occur : (f : Pattern) (v : View) → Every (OccursIn f v) (occurrences_in f v)
unfolding occurrences_in
occurrences-occur f v = select-every (occurs_in f v) (λ r. (occurs_iff f v r).0) (rows f.count v.places)

pub occurrences_iff : (f : Pattern) (v : View) (r : List ℕ) → Memᴰ r (occurrences_in f v) ↔ OccursIn f v r
unfolding occurrences_in
occurrences_iff f v r = (
  every-mem (occurrences-occur f v),
  λ o. select-mem (occurs_in f v) (rows-mem f.count v.places r o.size (λ j h. (o.word j h).inside)) ((occurs_iff f v r).1 o),
)

pub occurrences_lex : (f : Pattern) (v : View) → Pairwise Lex (occurrences_in f v)
unfolding occurrences_in
occurrences_lex f v = select_pairwise (occurs_in f v) (rows_lex f.count v.places)
