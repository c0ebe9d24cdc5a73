-- The searches find the nearest occurrences, and the front and back lists are the greedy lists; they are unique.
use Prim.Native.Nat.{ℕ, ◌-◌, ◌≤◌, ◌<◌, min}
use Rattle.std.proofs.Common.{arith, sym, ◌∙◌}
use Rattle.std.specs.Prelude.{◌≡◌, ◌↔◌, Bool}
use Rattle.std.proofs.Math.Path.{refl, ap, fun_ext}
use Rattle.std.proofs.Math.Option.{none, some}
use mathlib.Core.List.{List, reverse}
use Rattle.std.proofs.Math.Dec.{ltb}
use Rattle.pattern.specs.declared.Pattern.{Pattern}
use Rattle.matching.specs.Occurrence.{View, OccursIn, at}
use Rattle.basics.specs.Collections.{select}
use Rattle.matching.specs.Occurrences.{occurrences_in}
use Rattle.matching.specs.Rows.{level, Before, before, meet, join, After}
use Rattle.matching.specs.Searches.{extreme, earliest_of, latest_of, earliest_in, latest_in, EarliestIn, LatestIn}
use Rattle.matching.specs.Lists.{follow, leftmost_in, rightmost_in}
use Rattle.matching.proofs.Laws.Tests.{each_same, before_iff}
use Rattle.matching.proofs.Laws.Enumeration.{occurrences-occur, occurrences_iff}
use Rattle.matching.proofs.Laws.Lattice.{occurs_sublattice}
use Rattle.matching.proofs.Laws.Direction.{forwards, backwards}
use Rattle.matching.proofs.Laws.Greedy.{greedy_unique}
use Rattle.matching.proofs.Laws.Searching.{Searchable, search_some, search_none, some_search, none_search, follow_greedy}
use Rattle.matching.proofs.Laws.Bounding.{Forward, Backward}

-- the front list
abbrev pub FrontIn : Pattern → View → List (List ℕ) → Type 0
FrontIn f v = Forward f.count (OccursIn f v) (level f.count 0)

-- the back list from its last row on
abbrev pub BackIn : Pattern → View → List (List ℕ) → Type 0
BackIn f v = Backward f.count (OccursIn f v) (level f.count 65535)

module _ (f : Pattern) (v : View) (some-slot : 1 ≤ f.count) where
  upwards : Searchable (OccursIn f v) (Before f.count) (occurrences_in f v) (λ a r. before f.count a r) meet (λ r. v.places - at r 0)
  unfolding Before
  upwards = record {
    sound = occurrences-occur f v;
    complete = λ r. (occurrences_iff f v r).1;
    tested = before_iff f.count;
    near_hit = (occurs_sublattice f v).meets;
    deeper = λ a r o p. omega (arith, (o.word 0 some-slot).inside, p 0 some-slot);
  }

  downwards : Searchable (OccursIn f v) (After f.count) (occurrences_in f v) (λ a r. before f.count r a) join (λ r. min (at r 0 - 1) v.places)
  unfolding Before
  downwards = record {
    sound = occurrences-occur f v;
    complete = λ r. (occurrences_iff f v r).1;
    tested = λ r s. before_iff f.count s r;
    near_hit = (occurs_sublattice f v).joins;
    deeper = λ a r o p. omega (arith, (o.word 0 some-slot).inside, p 0 some-slot);
  }

  -- ---- the searches: the nearest occurrence, and none exactly if there is none

  pub earliest_some : (marks r : List ℕ) → (earliest_in f v marks ≡ some r) ↔ EarliestIn f v marks r
  unfolding earliest_of
  earliest_some marks r = (some_search (forwards f.count) upwards, search_some (forwards f.count) upwards (λ s o. o.size))

  pub earliest_none : (marks : List ℕ) → (earliest_in f v marks ≡ none) ↔ ((s : List ℕ) → OccursIn f v s → Before f.count marks s → ⊥)
  unfolding earliest_of
  earliest_none marks = (none_search (forwards f.count) upwards marks, search_none (forwards f.count) upwards marks)

  pub latest_some : (marks r : List ℕ) → (latest_in f v marks ≡ some r) ↔ LatestIn f v marks r
  unfolding latest_of
  latest_some marks r = (some_search (backwards f.count) downwards, search_some (backwards f.count) downwards (λ s o. o.size))

  pub latest_none : (marks : List ℕ) → (latest_in f v marks ≡ none) ↔ ((s : List ℕ) → OccursIn f v s → Before f.count s marks → ⊥)
  unfolding latest_of
  latest_none marks = (none_search (backwards f.count) downwards marks, search_none (backwards f.count) downwards marks)

  -- marks matter at the pattern's slots alone
  pub earliest_same : (a b : List ℕ) → ((j : ℕ) → j < f.count → at a j ≡ at b j) → earliest_in f v a ≡ earliest_in f v b
  unfolding earliest_of before
  earliest_same a b same = ap (λ (past : List ℕ → Bool). extreme meet (select past (occurrences_in f v)))
      (fun_ext (λ r. each_same f.count (λ j. ltb (at a j) (at r j)) (λ j. ltb (at b j) (at r j)) (λ j h. ap (λ (x : ℕ). ltb x (at r j)) (same j h))))

  pub latest_same : (a b : List ℕ) → ((j : ℕ) → j < f.count → at a j ≡ at b j) → latest_in f v a ≡ latest_in f v b
  unfolding latest_of before
  latest_same a b same = ap (λ (past : List ℕ → Bool). extreme join (select past (occurrences_in f v)))
      (fun_ext (λ r. each_same f.count (λ j. ltb (at r j) (at a j)) (λ j. ltb (at r j) (at b j)) (λ j h. ap (λ (x : ℕ). ltb (at r j) x) (same j h))))

  -- ---- the lists

  pub leftmost-front : FrontIn f v (leftmost_in f v)
  unfolding leftmost_in earliest_of
  leftmost-front = follow_greedy (forwards f.count) upwards v.places (level f.count 0) (omega arith)

  -- the back list from its last row on
  unfoldable pub from_last : List (List ℕ)
  from_last = follow (λ marks. latest_in f v marks) v.places (level f.count 65535)

  pub from_last_back : BackIn f v from_last
  unfolding from_last latest_of
  from_last_back = follow_greedy (backwards f.count) downwards v.places (level f.count 65535) (omega arith)

  pub rightmost-from_last : rightmost_in f v ≡ reverse from_last
  unfolding rightmost_in from_last
  rightmost-from_last = refl

  pub front_unique : {F : List (List ℕ)} → FrontIn f v F → F ≡ leftmost_in f v
  front_unique g = greedy_unique (forwards f.count) (λ r o. o.size) g leftmost-front

  pub back_unique : {B : List (List ℕ)} → BackIn f v B → reverse B ≡ rightmost_in f v
  back_unique g = ap reverse (greedy_unique (backwards f.count) (λ r o. o.size) g from_last_back) ∙ sym rightmost-from_last
