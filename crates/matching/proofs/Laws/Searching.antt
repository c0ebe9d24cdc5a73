-- In either direction: where all hits are listed, the search past the marks finds the nearest, and following it makes the greedy list.
use Prim.Native.Nat.{ℕ, zero, suc, ◌≤◌, ◌<◌}
use Rattle.std.proofs.Common.{arith, ap}
use Rattle.std.specs.Prelude.{◌≡◌, refl, ◌↔◌, Bool, true, length}
use Rattle.std.proofs.Math.Option.{Option, none as nothing, some as just}
use mathlib.Core.List.Memᴰ
use mathlib.Core.List.{List, [], ◌∷◌, Memᴰ}
use Rattle.basics.specs.Collections.{Every, none, more, select}
use Rattle.matching.specs.Searches.{nearest, extreme, Nearest}
use Rattle.matching.specs.Lists.{onward, follow}
use Rattle.basics.specs.Laws.Collections.{every_map, every-mem, select-every, select_keeps, select-mem}
use Rattle.matching.proofs.Laws.Direction.{Direction}
use Rattle.matching.proofs.Laws.Greedy.{Greedy, done, next}

-- ---- what a search over listed hits needs besides a direction

module _ (Hit : List ℕ → Type 0) (◌≺◌ : List ℕ → List ℕ → Type 0) where
  infix 40 ◌≺◌
  -- the list has just the hits; the test says which are past; the nearer of two hits is a hit; a hit past another is deeper
  pub record Searchable (hits : List (List ℕ)) (past : List ℕ → List ℕ → Bool) (near : List ℕ → List ℕ → List ℕ) (depth : List ℕ → ℕ) : Type 0 where
    pub sound : Every Hit hits
    pub complete : (r : List ℕ) → Hit r → Memᴰ r hits
    pub tested : (r s : List ℕ) → (past r s ≡ true) ↔ (r ≺ s)
    pub near_hit : (r s : List ℕ) → Hit r → Hit s → Hit (near r s)
    pub deeper : (a r : List ℕ) → Hit r → a ≺ r → depth r < depth a

nearest_in : (near : List ℕ → List ℕ → List ℕ) {P : List ℕ → Type 0} → ((r s : List ℕ) → P r → P s → P (near r s))
    → (r : List ℕ) {R : List (List ℕ)} → P r → Every P R → P (nearest near r R)
unfolding nearest
nearest_in near closed r p none = p
nearest_in near closed r p (more {x = s} {xs = R} q e) = closed r (nearest near s R) p (nearest_in near closed s q e)

module _ {m : ℕ} {Hit : List ℕ → Type 0} {◌≺◌ ◌≼◌ : List ℕ → List ℕ → Type 0} {near : List ℕ → List ℕ → List ℕ} (d : Direction m ◌≺◌ ◌≼◌ near)
    {hits : List (List ℕ)} {past : List ℕ → List ℕ → Bool} {depth : List ℕ → ℕ} (S : Searchable Hit ◌≺◌ hits past near depth) where
  infix 40 ◌≺◌
  nearest_least : (r : List ℕ) (R : List (List ℕ)) → Every (◌≼◌ (nearest near r R)) (r ∷ R)
  unfolding nearest
  nearest_least r [] = more (d.near_refl r) none
  nearest_least r (s ∷ R) =
      let a = nearest near s R in
      more (d.near_left r a) (every_map (λ t. d.near_trans (near r a) a t (d.near_right r a)) (nearest_least s R))

  nearest_of : (marks r : List ℕ) {R : List (List ℕ)} → Every Hit (r ∷ R) → Every (◌≺◌ marks) (r ∷ R) → ((s : List ℕ) → Hit s → marks ≺ s → Memᴰ s (r ∷ R))
      → Nearest Hit ◌≺◌ ◌≼◌ marks (nearest near r R)
  nearest_of marks r {R} (more h hs) (more p ps) complete = record {
    hit = nearest_in near S.near_hit r h hs;
    past = nearest_in near (d.near_past marks) r p ps;
    least = λ s h' p'. every-mem (nearest_least r R) (complete s h' p');
  }

  -- ---- one search

  -- what a search answers: the nearest hit past the marks, or that there is none
  pub data Answers (marks : List ℕ) : Option (List ℕ) → Type 0 where
    found : {r : List ℕ} → Nearest Hit ◌≺◌ ◌≼◌ marks r → Answers marks (just r)
    absent : ((s : List ℕ) → Hit s → marks ≺ s → ⊥) → Answers marks nothing

  answers : (marks : List ℕ) (R : List (List ℕ)) → Every Hit R → Every (◌≺◌ marks) R → ((s : List ℕ) → Hit s → marks ≺ s → Memᴰ s R)
      → Answers marks (extreme near R)
  unfolding extreme
  answers marks [] none none complete = absent (λ s h p. Memᴰ.not-nil (complete s h p))
  answers marks (r ∷ R) hs ps complete = found (nearest_of marks r hs ps complete)

  pub search_answers : (marks : List ℕ) → Answers marks (extreme near (select (λ r. past marks r) hits))
  search_answers marks =
      answers marks (select (λ r. past marks r) hits)
      (select_keeps (λ r. past marks r) S.sound)
      (select-every (λ r. past marks r) (λ r. (S.tested marks r).0) hits)
      (λ s h p. select-mem (λ r. past marks r) (S.complete s h) ((S.tested marks s).1 p))

  answers_some : ((s : List ℕ) → Hit s → length s ≡ m) → {marks r : List ℕ} {o : Option (List ℕ)} → Answers marks o → Nearest Hit ◌≺◌ ◌≼◌ marks r → o ≡ just r
  answers_some size {r = r} (found {r = a} k) n =
      ap just (d.near_antisym a r (size a k.hit) (size r n.hit) (k.least r n.hit n.past) (n.least a k.hit k.past))
  answers_some size {r = r} (absent no_one) n = absurd (no_one r n.hit n.past)

  answers_none : {marks : List ℕ} {o : Option (List ℕ)} → Answers marks o → ((s : List ℕ) → Hit s → marks ≺ s → ⊥) → o ≡ nothing
  answers_none (found {r = a} k) no_one = absurd (no_one a k.hit k.past)
  answers_none (absent no_one) no-one' = refl

  pub search_some : ((s : List ℕ) → Hit s → length s ≡ m) → {marks r : List ℕ} → Nearest Hit ◌≺◌ ◌≼◌ marks r → extreme near (select (λ r. past marks r) hits) ≡ just r
  search_some size {marks = marks} n = answers_some size (search_answers marks) n

  pub search_none : (marks : List ℕ) → ((s : List ℕ) → Hit s → marks ≺ s → ⊥) → extreme near (select (λ r. past marks r) hits) ≡ nothing
  search_none marks no_one = answers_none (search_answers marks) no_one

  answers-nearest : {marks r : List ℕ} → Answers marks (just r) → Nearest Hit ◌≺◌ ◌≼◌ marks r
  answers-nearest (found n) = n

  answers-absent : {marks : List ℕ} → Answers marks nothing → (s : List ℕ) → Hit s → marks ≺ s → ⊥
  answers-absent (absent no_one) = no_one

  pub some_search : {marks r : List ℕ} → extreme near (select (λ r. past marks r) hits) ≡ just r → Nearest Hit ◌≺◌ ◌≼◌ marks r
  some_search {marks} e = answers-nearest (rw e at (search_answers marks))

  pub none_search : (marks : List ℕ) → extreme near (select (λ r. past marks r) hits) ≡ nothing → (s : List ℕ) → Hit s → marks ≺ s → ⊥
  none_search marks e = answers-absent (rw e at (search_answers marks))

  -- ---- search after search

  onward_greedy : {marks : List ℕ} {o : Option (List ℕ)} (rest : List ℕ → List (List ℕ)) → Answers marks o
      → ((a : List ℕ) → Hit a → marks ≺ a → Greedy Hit ◌≺◌ ◌≼◌ a (rest a)) → Greedy Hit ◌≺◌ ◌≼◌ marks (onward o rest)
  unfolding onward
  onward_greedy rest (found {r = a} n) below = next n (below a n.hit n.past)
  onward_greedy rest (absent no_one) below = done no_one

  pub follow_greedy : (n : ℕ) (marks : List ℕ) → depth marks ≤ n → Greedy Hit ◌≺◌ ◌≼◌ marks (follow (λ a. extreme near (select (λ r. past a r) hits)) n marks)
  unfolding follow
  follow_greedy zero marks l = done {marks = marks} (λ s h p. omega (arith, S.deeper marks s h p))
  follow_greedy (suc n) marks l =
      onward_greedy (λ a. follow (λ b. extreme near (select (λ r. past b r) hits)) n a) (search_answers marks)
      (λ a h p. follow_greedy n a (omega (arith, S.deeper marks a h p)))
