-- Laws of what holds of every member of a list, and of every two; of a list from its end; of the members that pass a test.
use Rattle.std.specs.Prelude.{ℕ, zero, suc, ◌+◌, ◌≤◌, ◌<◌, ◌≡◌, Bool, length, get_or}
use native.Mathlib.Omega.{arith}
use Rattle.std.proofs.Math.Path.{refl, ap}
use Rattle.std.proofs.Common.{sym, subst, ◌∙◌}
use Rattle.std.proofs.Math.Bool.{true, false}
use mathlib.Core.List.{List, [], ◌∷◌, ◌++◌, map, reverse, reverse_aux, Memᴰ}
use Rattle.basics.specs.Collections.{Every, Pairwise, none, more, keep, select}

module _ {A : Type 0} where
  -- what holds of everything holds of each member
  pub every_of : {P : A → Type 0} → ((x : A) → P x) → (xs : List A) → Every P xs
  every_of f [] = none
  every_of f (x ∷ xs) = more (f x) (every_of f xs)

  -- what follows from it holds of each member too
  pub every_map : {P Q : A → Type 0} → ((x : A) → P x → Q x) → {xs : List A} → Every P xs → Every Q xs
  every_map f none = none
  every_map f (more {x = x} p e) = more (f x p) (every_map f e)

  -- two things that hold of each member hold together
  pub every_both : {P Q : A → Type 0} {xs : List A} → Every P xs → Every Q xs → Every (λ x. P x × Q x) xs
  every_both none none = none
  every_both (more p e) (more q e') = more (p, q) (every_both e e')

  -- what holds of each member holds of a member
  pub every-mem : {P : A → Type 0} {x : A} {xs : List A} → Every P xs → Memᴰ x xs → P x
  every-mem {P = P} none m = elim m [ ]
  every-mem {P} (more h e) (Memᴰ.head q) = subst P (sym q) h
  every-mem (more h e) (Memᴰ.tail m) = every-mem e m

  -- and of the member at an index
  pub every_at : {P : A → Type 0} {xs : List A} → Every P xs → (d : A) (k : ℕ) → k < length xs → P (get_or xs k d)
  every_at none d k h = absurd (omega arith)
  every_at (more p e) d zero h = p
  every_at (more p e) d (suc k) h = every_at e d k (omega arith)

  -- what holds of the member at each index holds of each member
  pub every-from : {P : A → Type 0} (d : A) (xs : List A) → ((k : ℕ) → k < length xs → P (get_or xs k d)) → Every P xs
  every-from d [] h = none
  every-from d (x ∷ xs) h = more (h zero (omega arith)) (every-from d xs (λ k l. h (suc k) (omega arith)))

  -- what holds of whatever is a member holds of each member
  pub every-listed : {P : A → Type 0} (xs : List A) → ((x : A) → Memᴰ x xs → P x) → Every P xs
  every-listed [] h = none
  every-listed (x ∷ xs) h = more (h x (Memᴰ.head refl)) (every-listed xs (λ y m. h y (Memᴰ.tail m)))

  -- a relation between any two stands between the members
  pub pairwise_of : {R : A → A → Type 0} → ((x y : A) → R x y) → (xs : List A) → Pairwise R xs
  pairwise_of f [] = none
  pairwise_of f (x ∷ xs) = more (every_of (f x) xs) (pairwise_of f xs)

  -- what follows from it stands between the members too
  pub pairwise_map : {R S : A → A → Type 0} → ((x y : A) → R x y → S x y) → {xs : List A} → Pairwise R xs → Pairwise S xs
  pairwise_map f none = none
  pairwise_map f (more {x = x} e p) = more (every_map (f x) e) (pairwise_map f p)

  -- between the members at two indexes
  pub pairwise_at : {R : A → A → Type 0} {xs : List A} → Pairwise R xs → (d : A) (i j : ℕ) → i < j → j < length xs → R (get_or xs i d) (get_or xs j d)
  pairwise_at none d i j l h = absurd (omega arith)
  pairwise_at (more e p) d i zero l h = absurd (omega arith)
  pairwise_at (more e p) d zero (suc j) l h = every_at e d j (omega arith)
  pairwise_at (more e p) d (suc i) (suc j) l h = pairwise_at p d i j (omega arith) (omega arith)

  -- and from all of these, between each member and each later one
  pub pairwise_from : {R : A → A → Type 0} (d : A) (xs : List A)
      → ((i j : ℕ) → i < j → j < length xs → R (get_or xs i d) (get_or xs j d)) → Pairwise R xs
  pairwise_from d [] h = none
  pairwise_from d (x ∷ xs) h =
      more
      (every-from d xs (λ k l. h zero (suc k) (omega arith) (omega arith)))
      (pairwise_from d xs (λ i j l b. h (suc i) (suc j) (omega arith) (omega arith)))

  -- two lists one after the other
  pub every_append : {P : A → Type 0} {xs ys : List A} → Every P xs → Every P ys → Every P (xs ++ ys)
  every_append none q = q
  every_append (more p e) q = more p (every_append e q)

  -- and each member of the first stands in the relation to each of the second
  pub pairwise_append : {R : A → A → Type 0} {xs ys : List A} → Pairwise R xs → Pairwise R ys → Every (λ x. Every (R x) ys) xs → Pairwise R (xs ++ ys)
  pairwise_append none q none = q
  pairwise_append (more e p) q (more c cs) = more (every_append e c) (pairwise_append p q cs)

  -- ---- a list from its end

  every_reverse_aux : {P : A → Type 0} {xs ys : List A} → Every P xs → Every P ys → Every P (reverse_aux xs ys)
  every_reverse_aux none q = q
  every_reverse_aux (more p e) q = every_reverse_aux e (more p q)

  -- the order does not matter
  pub every-reverse : {P : A → Type 0} {xs : List A} → Every P xs → Every P (reverse xs)
  every-reverse e = every_reverse_aux e none

  pairwise_reverse_aux : {R : A → A → Type 0} {xs ys : List A}
      → Pairwise (λ x y. R y x) xs → Pairwise R ys → Every (λ x. Every (R x) ys) xs → Pairwise R (reverse_aux xs ys)
  pairwise_reverse_aux none q none = q
  pairwise_reverse_aux (more e p) q (more c cs) = pairwise_reverse_aux p (more c q) (every_map (λ x h. more h.0 h.1) (every_both e cs))

  get_or_reverse_aux_right : (xs ys : List A) (d : A) (i k : ℕ) → k ≡ length xs + i → get_or (reverse_aux xs ys) k d ≡ get_or ys i d
  get_or_reverse_aux_right [] ys d i k e = ap (λ (n : ℕ). get_or ys n d) (omega arith)
  get_or_reverse_aux_right (x ∷ xs) ys d i k e = get_or_reverse_aux_right xs (x ∷ ys) d (suc i) k (omega arith)

  get_or_reverse_aux : (xs ys : List A) (d : A) (i k : ℕ) → i + k + 1 ≡ length xs → get_or (reverse_aux xs ys) k d ≡ get_or xs i d
  get_or_reverse_aux [] ys d i k e = absurd (omega arith)
  get_or_reverse_aux (x ∷ xs) ys d zero k e = get_or_reverse_aux_right xs (x ∷ ys) d zero k (omega arith)
  get_or_reverse_aux (x ∷ xs) ys d (suc i) k e = get_or_reverse_aux xs (x ∷ ys) d i k (omega arith)

  -- member i is number k from the end
  pub get_d_reverse : (xs : List A) (d : A) (i k : ℕ) → i + k + 1 ≡ length xs → get_or (reverse xs) k d ≡ get_or xs i d
  get_d_reverse xs d i k e = get_or_reverse_aux xs [] d i k e

  -- from the end the relation is turned round
  pub pairwise_reverse : {R : A → A → Type 0} {xs : List A} → Pairwise (λ x y. R y x) xs → Pairwise R (reverse xs)
  pairwise_reverse {xs} p = pairwise_reverse_aux p none (every_of (λ x. none) xs)

  -- ---- the members of a list that pass a test

  keep-every : {P : A → Type 0} (b : Bool) (x : A) {xs : List A} → (b ≡ true → P x) → Every P xs → Every P (keep b x xs)
  unfolding keep
  keep-every true x h e = more (h refl) e
  keep-every false x h e = e

  -- what the test tells holds of each member that passes
  pub select-every : {P : A → Type 0} (p : A → Bool) → ((x : A) → p x ≡ true → P x) → (xs : List A) → Every P (select p xs)
  unfolding select
  select-every p h [] = none
  select-every p h (x ∷ xs) = keep-every (p x) x (h x) (select-every p h xs)

  -- what holds of each member holds of those that pass
  pub select_keeps : {P : A → Type 0} (p : A → Bool) {xs : List A} → Every P xs → Every P (select p xs)
  unfolding select
  select_keeps p none = none
  select_keeps p (more {x = x} h e) = keep-every (p x) x (λ t. h) (select_keeps p e)

  keep_pairwise : {R : A → A → Type 0} (b : Bool) (x : A) {xs : List A} → Every (R x) xs → Pairwise R xs → Pairwise R (keep b x xs)
  unfolding keep
  keep_pairwise true x e p = more e p
  keep_pairwise false x e p = p

  -- what stands between the members stands between those that pass
  pub select_pairwise : {R : A → A → Type 0} (p : A → Bool) {xs : List A} → Pairwise R xs → Pairwise R (select p xs)
  unfolding select
  select_pairwise p none = none
  select_pairwise p (more {x = x} e q) = keep_pairwise (p x) x (select_keeps p e) (select_pairwise p q)

  keep_tail : (b : Bool) {x : A} (y : A) {xs : List A} → Memᴰ x xs → Memᴰ x (keep b y xs)
  unfolding keep
  keep_tail true y m = Memᴰ.tail m
  keep_tail false y m = m

  -- a member that passes is among those that pass
  pub select-mem : (p : A → Bool) {x : A} {xs : List A} → Memᴰ x xs → p x ≡ true → Memᴰ x (select p xs)
  unfolding select keep
  select-mem p (Memᴰ.head {x = y} e) h = let q : p y ≡ true = cc in rw q (Memᴰ.head e)
  select-mem p (Memᴰ.tail {x = y} m) h = keep_tail (p y) y (select-mem p m h)

  -- no more of them than before
  keep-length : (b : Bool) (x : A) (xs : List A) → length (keep b x xs) ≤ length xs + 1
  unfolding keep
  keep-length true x xs = omega arith
  keep-length false x xs = omega arith

  pub select-length : (p : A → Bool) (xs : List A) → length (select p xs) ≤ length xs
  unfolding select
  select-length p [] = omega arith
  select-length p (x ∷ xs) = omega (arith, keep-length (p x) x (select p xs), select-length p xs)

  -- all of them where each passes
  pub select_all : (p : A → Bool) {xs : List A} → Every (λ x. p x ≡ true) xs → select p xs ≡ xs
  unfolding select keep
  select_all p none = refl
  select_all p (more {x = x} h e) = rw (h, select_all p e)

  -- none where none passes
  pub select_none : (p : A → Bool) {xs : List A} → Every (λ x. p x ≡ false) xs → select p xs ≡ []
  unfolding select keep
  select_none p none = refl
  select_none p (more {x = x} h e) = rw (h, select_none p e)

  keep_append : (b : Bool) (x : A) (xs ys : List A) → keep b x (xs ++ ys) ≡ keep b x xs ++ ys
  unfolding keep
  keep_append true x xs ys = refl
  keep_append false x xs ys = refl

  -- of two lists one after the other
  pub select-append : (p : A → Bool) (xs ys : List A) → select p (xs ++ ys) ≡ select p xs ++ select p ys
  unfolding select
  select-append p [] ys = refl
  select-append p (x ∷ xs) ys = ap (keep (p x) x) (select-append p xs ys) ∙ keep_append (p x) x (select p xs) (select p ys)

-- ---- the list of the images

module _ {A B : Type 0} (h : A → B) where
  -- of each image
  pub map-every : {P : A → Type 0} {Q : B → Type 0} → ((x : A) → P x → Q (h x)) → {xs : List A} → Every P xs → Every Q (map h xs)
  map-every f none = none
  map-every f (more {x = x} p e) = more (f x p) (map-every f e)

  -- between the images
  pub map_pairwise : {R : A → A → Type 0} {S : B → B → Type 0} → ((x y : A) → R x y → S (h x) (h y)) → {xs : List A} → Pairwise R xs → Pairwise S (map h xs)
  map_pairwise f none = none
  map_pairwise f (more {x = x} e p) = more (map-every (f x) e) (map_pairwise f p)

  -- at an index
  pub map_at : (xs : List A) (d : A) (e : B) (k : ℕ) → k < length xs → get_or (map h xs) k e ≡ h (get_or xs k d)
  map_at [] d e k l = absurd (omega arith)
  map_at (x ∷ xs) d e zero l = refl
  map_at (x ∷ xs) d e (suc k) l = map_at xs d e k (omega arith)

  keep-map : (b : Bool) (x : A) (xs : List A) → keep b (h x) (map h xs) ≡ map h (keep b x xs)
  unfolding keep
  keep-map true x xs = refl
  keep-map false x xs = refl

  -- the images that pass are those of the members that pass
  pub select-map : (p : B → Bool) (q : A → Bool) {xs : List A} → Every (λ x. p (h x) ≡ q x) xs → select p (map h xs) ≡ map h (select q xs)
  unfolding select
  select-map p q none = refl
  select-map p q (more {x = x} {xs = xs} e es) = rw (e, select-map p q es) (keep-map (q x) x (select q xs))
