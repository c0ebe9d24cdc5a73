-- The greedy list: each row the nearest hit past the row before. No chain of hits has more rows, and none has a nearer k-th row.
use Rattle.std.specs.Prelude.{ℕ, zero, suc, ◌≤◌, ◌<◌, ◌≡◌, refl, List, [], ◌∷◌, ◌++◌, length, get_or}
use Rattle.std.proofs.Common.{arith, ap, subst, ◌∙◌}
use Rattle.basics.specs.Collections.{Every, Pairwise, none, more}
use Rattle.basics.specs.Laws.Collections.{every_map}
use Rattle.matching.specs.Searches.{Nearest}
use Rattle.matching.proofs.Laws.Direction.{Direction}

module _ (Hit : List ℕ → Type 0) (◌≺◌ : List ℕ → List ℕ → Type 0) where
  infix 40 ◌≺◌
  -- hits, the first past the marks and each later one past the one before
  pub data Chain : List ℕ → List (List ℕ) → Type 0 where
    end : {marks : List ℕ} → Chain marks []
    link : {marks s : List ℕ} {S : List (List ℕ)} → Hit s → marks ≺ s → Chain s S → Chain marks (s ∷ S)

  module _ (◌≼◌ : List ℕ → List ℕ → Type 0) where
    infix 40 ◌≼◌
    -- the first row is the nearest hit past the marks, each later one the nearest past the row before, and no hit is past the last
    pub data Greedy : List ℕ → List (List ℕ) → Type 0 where
      done : {marks : List ℕ} → ((s : List ℕ) → Hit s → marks ≺ s → ⊥) → Greedy marks []
      next : {marks r : List ℕ} {F : List (List ℕ)} → Nearest Hit ◌≺◌ ◌≼◌ marks r → Greedy r F → Greedy marks (r ∷ F)

    -- a greedy list so far, as a loop appends to it: from the marks before its first row to its last row
    pub data Run : List ℕ → List (List ℕ) → List ℕ → Type 0 where
      start : {marks : List ℕ} → Run marks [] marks
      step : {marks r last : List ℕ} {F : List (List ℕ)} → Nearest Hit ◌≺◌ ◌≼◌ marks r → Run r F last → Run marks (r ∷ F) last

module _ {Hit : List ℕ → Type 0} {◌≺◌ ◌≼◌ : List ℕ → List ℕ → Type 0} where
  infix 40 ◌≺◌
  pub run-append : {a b r : List ℕ} {F : List (List ℕ)} → Run Hit ◌≺◌ ◌≼◌ a F b → Nearest Hit ◌≺◌ ◌≼◌ b r → Run Hit ◌≺◌ ◌≼◌ a (F ++ (r ∷ [])) r
  run-append start n = step n start
  run-append (step k u) n = step k (run-append u n)

  pub run_done : {a b : List ℕ} {F : List (List ℕ)} → Run Hit ◌≺◌ ◌≼◌ a F b → ((s : List ℕ) → Hit s → b ≺ s → ⊥) → Greedy Hit ◌≺◌ ◌≼◌ a F
  run_done start no_more = done no_more
  run_done (step n u) no_more = next n (run_done u no_more)

module _ {Hit : List ℕ → Type 0} {◌≺◌ : List ℕ → List ℕ → Type 0} where
  infix 40 ◌≺◌
  pub chain_of : {marks : List ℕ} {S : List (List ℕ)} → Every Hit S → Every (λ s. marks ≺ s) S → Pairwise ◌≺◌ S → Chain Hit ◌≺◌ marks S
  chain_of none none none = end
  chain_of (more h hs) (more p ps) (more e q) = link h p (chain_of hs e q)

  pub run_chain : {◌≼◌ : List ℕ → List ℕ → Type 0} {a b : List ℕ} {F : List (List ℕ)} → Run Hit ◌≺◌ ◌≼◌ a F b → Chain Hit ◌≺◌ a F
  run_chain start = end
  run_chain (step n u) = link n.hit n.past (run_chain u)

  pub chain_hits : {marks : List ℕ} {S : List (List ℕ)} → Chain Hit ◌≺◌ marks S → Every Hit S
  chain_hits end = none
  chain_hits (link h p c) = more h (chain_hits c)

  pub run-hits : {◌≼◌ : List ℕ → List ℕ → Type 0} {a b : List ℕ} {F : List (List ℕ)} → Run Hit ◌≺◌ ◌≼◌ a F b → Every Hit F
  run-hits u = chain_hits (run_chain u)

  pub greedy_chain : {◌≼◌ : List ℕ → List ℕ → Type 0} {marks : List ℕ} {F : List (List ℕ)} → Greedy Hit ◌≺◌ ◌≼◌ marks F → Chain Hit ◌≺◌ marks F
  greedy_chain (done no_more) = end
  greedy_chain (next n g) = link n.hit n.past (greedy_chain g)

-- marks that the same hits are past begin the same lists
module _ {Hit : List ℕ → Type 0} {◌≺◌ ◌≼◌ : List ℕ → List ℕ → Type 0} {a b : List ℕ} where
  infix 40 ◌≺◌
  pub greedy_from : ((s : List ℕ) → Hit s → a ≺ s → b ≺ s) → ((s : List ℕ) → Hit s → b ≺ s → a ≺ s)
      → {F : List (List ℕ)} → Greedy Hit ◌≺◌ ◌≼◌ a F → Greedy Hit ◌≺◌ ◌≼◌ b F
  greedy_from on back (done no_more) = done (λ s h p. no_more s h (back s h p))
  greedy_from on back (next {r = r} n g) = next (record { hit = n.hit; past = on r n.hit n.past; least = λ s h p. n.least s h (back s h p) }) g

module _ {m : ℕ} {Hit : List ℕ → Type 0} {◌≺◌ ◌≼◌ : List ℕ → List ℕ → Type 0} {near : List ℕ → List ℕ → List ℕ} (d : Direction m ◌≺◌ ◌≼◌ near) where
  infix 40 ◌≺◌
  infix 40 ◌≼◌
  chain_past : {marks : List ℕ} {S : List (List ℕ)} → Chain Hit ◌≺◌ marks S → Every (λ s. marks ≺ s) S
  chain_past end = none
  chain_past (link {marks = a} {s = s} h p c) = more p (every_map (λ t. d.past_trans a s t p) (chain_past c))

  pub chain_pairwise : {marks : List ℕ} {S : List (List ℕ)} → Chain Hit ◌≺◌ marks S → Pairwise ◌≺◌ S
  chain_pairwise end = none
  chain_pairwise (link h p c) = more (chain_past c) (chain_pairwise c)

  chain_from : {r s : List ℕ} {S : List (List ℕ)} → r ≼ s → Chain Hit ◌≺◌ s S → Chain Hit ◌≺◌ r S
  chain_from le end = end
  chain_from {r} {s} le (link {s = t} h p c) = link h (d.past_of_near r s t le p) c

  pub greedy_longest : {marks : List ℕ} {F S : List (List ℕ)} → Greedy Hit ◌≺◌ ◌≼◌ marks F → Chain Hit ◌≺◌ marks S → length S ≤ length F
  greedy_longest (done no_more) end = omega arith
  greedy_longest (done no_more) (link {s = s} h p c) = absurd (no_more s h p)
  greedy_longest (next n g) end = omega arith
  greedy_longest (next n g) (link {s = s} h p c) = omega (arith, greedy_longest g (chain_from (n.least s h p) c))

  pub greedy_nearest : {marks : List ℕ} {F S : List (List ℕ)} → Greedy Hit ◌≺◌ ◌≼◌ marks F → Chain Hit ◌≺◌ marks S
      → (k : ℕ) → k < length S → get_or F k [] ≼ get_or S k []
  greedy_nearest (done no_more) end k l = absurd (omega arith)
  greedy_nearest (done no_more) (link {s = s} h p c) k l = absurd (no_more s h p)
  greedy_nearest (next n g) end k l = absurd (omega arith)
  greedy_nearest (next n g) (link {s = s} h p c) zero l = n.least s h p
  greedy_nearest (next n g) (link {s = s} h p c) (suc k) l = greedy_nearest g (chain_from (n.least s h p) c) k (omega arith)

  pub greedy_unique : ((r : List ℕ) → Hit r → length r ≡ m) → {marks : List ℕ} {F G : List (List ℕ)}
      → Greedy Hit ◌≺◌ ◌≼◌ marks F → Greedy Hit ◌≺◌ ◌≼◌ marks G → F ≡ G
  greedy_unique size (done no_more) (done no-more') = refl
  greedy_unique size (done no_more) (next {r = s} n h) = absurd (no_more s n.hit n.past)
  greedy_unique size (next {r = r} n g) (done no_more) = absurd (no_more r n.hit n.past)
  greedy_unique size (next {r = r} n g) (next {r = s} {F = G} k h) =
      let e : s ≡ r =
      d.near_antisym s r (size s k.hit) (size r n.hit) (k.least r n.hit n.past) (n.least s k.hit k.past) in
      let i = greedy_unique size g (subst (λ (x : List ℕ). Greedy Hit ◌≺◌ ◌≼◌ x G) e h) in
      cc

  -- a greedy list so far is where every greedy list from the same marks begins
  pub run_split : ((r : List ℕ) → Hit r → length r ≡ m) → {a b : List ℕ} {F G : List (List ℕ)}
      → Run Hit ◌≺◌ ◌≼◌ a F b → Greedy Hit ◌≺◌ ◌≼◌ a G → (R : List (List ℕ)) × (G ≡ F ++ R)
  run_split size {G = G} start g = (G, refl)
  run_split size (step {r = r} n u) (done no_more) = absurd (no_more r n.hit n.past)
  run_split size (step {r = r} {F = F} n u) (next {r = s} {F = G} k h) =
      let e : s ≡ r =
      d.near_antisym s r (size s k.hit) (size r n.hit) (k.least r n.hit n.past) (n.least s k.hit k.past) in
      let i = run_split size u (subst (λ (x : List ℕ). Greedy Hit ◌≺◌ ◌≼◌ x G) e h) in
      (i.0, ap (λ (x : List ℕ). x ∷ G) e ∙ ap (λ (R : List (List ℕ)). r ∷ R) i.1)
