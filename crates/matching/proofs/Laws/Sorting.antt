-- Laws of insertion sort by compare and exchange, over any lattice: of places, and of rows at every slot at once.
use Prim.Native.Nat.{ℕ, suc, ◌≤◌, min, max}
use Rattle.std.proofs.Math.Nat.{min-eq_left, min-eq_right, max-eq_left, max-eq_right}
use Rattle.std.proofs.Math.Decide.{dec_le}
use Rattle.std.proofs.Common.{arith, ◌∙◌}
use Rattle.std.specs.Prelude.{◌≡◌, length}
use Rattle.std.proofs.Math.Path.{refl, ap}
use mathlib.Core.List.Permᴰ
use mathlib.Core.List.{List, [], ◌∷◌, map, Permᴰ}
use Rattle.matching.specs.Rising.{insert, sort}
use Rattle.basics.specs.Collections.{Every, Pairwise, none, more}
use Rattle.basics.specs.Laws.Collections.{every_map, every_both, pairwise_of}

module _ {A : Type 0} (meet join : A → A → A) where
  length-insert : (x : A) (xs : List A) → length (insert meet join x xs) ≡ suc (length xs)
  unfolding insert
  length-insert x [] = refl
  length-insert x (y ∷ ys) = ap suc (length-insert (join x y) ys)

  pub length-sort : (xs : List A) → length (sort meet join xs) ≡ length xs
  unfolding sort
  length-sort [] = refl
  length-sort (x ∷ xs) = length-insert x (sort meet join xs) ∙ ap suc (length-sort xs)

  -- what holds of x and of y holds of both that come out of their exchange
  pub record Closed (P : A → Type 0) : Type 0 where
    pub meets : (x y : A) → P x → P y → P (meet x y)
    pub joins : (x y : A) → P x → P y → P (join x y)

-- ---- a map that keeps meet and join keeps the sort

module _ {A B : Type 0} (meet join : A → A → A) (meet' join' : B → B → B) (h : A → B)
    (h-meet : (x y : A) → h (meet x y) ≡ meet' (h x) (h y)) (h-join : (x y : A) → h (join x y) ≡ join' (h x) (h y)) where
  map-insert : (x : A) (xs : List A) → map h (insert meet join x xs) ≡ insert meet' join' (h x) (map h xs)
  unfolding insert
  map-insert x [] = refl
  map-insert x (y ∷ ys) = rw (map-insert (join x y) ys, h-meet, h-join)

  pub map-sort : (xs : List A) → map h (sort meet join xs) ≡ sort meet' join' (map h xs)
  unfolding sort
  map-sort [] = refl
  map-sort (x ∷ xs) = rw (map-insert, map-sort xs)

-- ---- what holds of every member, or of every two

module _ {A : Type 0} {meet join : A → A → A} where
  module _ {P : A → Type 0} (closed : Closed meet join P) where
    insert-every : (x : A) {xs : List A} → P x → Every P xs → Every P (insert meet join x xs)
    unfolding insert
    insert-every x p none = more p none
    insert-every x p (more {x = y} q e) = more (closed.meets x y p q) (insert-every (join x y) (closed.joins x y p q) e)

    pub sort-every : {xs : List A} → Every P xs → Every P (sort meet join xs)
    unfolding sort
    sort-every none = none
    sort-every (more {x = x} p e) = insert-every x p (sort-every e)

-- an exchange puts two members that are `Apart` into order, and neither law is lost for a third
pub record Exchange {A : Type 0} (meet join : A → A → A) (Apart ◌≺◌ : A → A → Type 0) : Type 0 where
  pub ordered : (x y : A) → Apart x y → ◌≺◌ (meet x y) (join x y)
  pub meet_before : (x y z : A) → ◌≺◌ y z → ◌≺◌ (meet x y) z
  pub join_apart : (x y z : A) → Apart x z → ◌≺◌ y z → Apart (join x y) z
  pub past_closed : (x : A) → Closed meet join (◌≺◌ x)
  pub apart-closed : (x : A) → Closed meet join (Apart x)

module _ {A : Type 0} {meet join : A → A → A} {Apart ◌≺◌ : A → A → Type 0} (exchange : Exchange meet join Apart ◌≺◌) where
  insert_pairwise : (x : A) {xs : List A} → Pairwise ◌≺◌ xs → Every (Apart x) xs → Pairwise ◌≺◌ (insert meet join x xs)
  unfolding insert
  insert_pairwise x none none = more none none
  insert_pairwise x (more {x = y} e p) (more a es) =
      more
      (insert-every (exchange.past_closed (meet x y)) (join x y) (exchange.ordered x y a) (every_map (λ z. exchange.meet_before x y z) e))
      (insert_pairwise (join x y) p (every_map (λ z h. exchange.join_apart x y z h.0 h.1) (every_both es e)))

  pub sort_pairwise : {xs : List A} → Pairwise Apart xs → Pairwise ◌≺◌ (sort meet join xs)
  unfolding sort
  sort_pairwise none = none
  sort_pairwise (more {x = x} a p) = insert_pairwise x (sort_pairwise p) (sort-every (exchange.apart-closed x) a)

-- ---- of places it is the ordinary sort: the same places, in order

places_exchange : Exchange min max (λ p q. Unit {0}) ◌≤◌
places_exchange = record {
  ordered = λ p q a. omega arith;
  meet_before = λ p q r l. omega arith;
  join_apart = λ p q r a l. tt;
  past_closed = λ p. record { meets = λ q r k l. omega arith; joins = λ q r k l. omega arith };
  apart-closed = λ p. record { meets = λ q r k l. tt; joins = λ q r k l. tt };
}

pub sort_sorted : (ps : List ℕ) → Pairwise ◌≤◌ (sort min max ps)
sort_sorted ps = sort_pairwise places_exchange (pairwise_of (λ p q. tt) ps)

exchange_perm : (p q : ℕ) (ps : List ℕ) → Permᴰ (min p q ∷ max p q ∷ ps) (p ∷ q ∷ ps)
exchange_perm p q ps = elim (dec_le p q) [
  | yes h ↦ rw (min-eq_left h, max-eq_right h) (Permᴰ.refl (p ∷ q ∷ ps))
  | no h ↦ let k : q ≤ p = omega arith in rw (min-eq_right k, max-eq_left k) (Permᴰ.swap refl refl)
]

insert-perm : (p : ℕ) (ps : List ℕ) → Permᴰ (insert min max p ps) (p ∷ ps)
unfolding insert
insert-perm p [] = Permᴰ.refl (p ∷ [])
insert-perm p (q ∷ ps) = Permᴰ.trans (Permᴰ.cons refl (insert-perm (max p q) ps)) (exchange_perm p q ps)

pub sort-perm : (ps : List ℕ) → Permᴰ (sort min max ps) ps
unfolding sort
sort-perm [] = Permᴰ.nil
sort-perm (p ∷ ps) = Permᴰ.trans (insert-perm p (sort min max ps)) (Permᴰ.cons refl (sort-perm ps))
