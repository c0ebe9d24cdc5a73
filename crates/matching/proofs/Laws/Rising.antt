-- Laws of the rising order: its column at each slot is a sorted rearrangement of the set's column, and a lattice of rows keeps it.
use Rattle.std.specs.Prelude.{ℕ, ◌≤◌, min, max, ◌≡◌, length, get_or}
use Rattle.std.proofs.Common.{sym, ap, ◌∙◌}
use mathlib.Core.List.{List, [], Permᴰ}
use Rattle.std.proofs.Math.ListN.{get_or-map}
use Rattle.matching.specs.Occurrence.{at, Apart}
use Rattle.basics.specs.Collections.{Every, Pairwise}
use Rattle.matching.specs.Rising.{sort, rising, column}
use Rattle.matching.proofs.Laws.Sorting.{length-sort, map-sort, sort-every, sort_pairwise, sort_sorted, sort-perm}
use Rattle.matching.specs.Rows.{Before, meet, join}
use Rattle.matching.proofs.Laws.Rows.{Sublattice, at_meet, at_join, rows_exchange}

-- at each slot it is the ordinary sort of the places
pub column-rising : (j : ℕ) (H : List (List ℕ)) → column j (rising H) ≡ sort min max (column j H)
column-rising j H = map-sort meet join min max (λ r. at r j) (λ r s. at_meet r s j) (λ r s. at_join r s j) H

-- row k has at each slot the k-th smallest place
pub at_rising : (H : List (List ℕ)) (j k : ℕ) → at (get_or (rising H) k []) j ≡ get_or (sort min max (column j H)) k 0
at_rising H j k = sym (get_or-map (λ r. at r j) (rising H) k []) ∙ ap (λ (ps : List ℕ). get_or ps k 0) (column-rising j H)

pub length-rising : (H : List (List ℕ)) → length (rising H) ≡ length H
length-rising H = length-sort meet join H

pub rising-every : {P : List ℕ → Type 0} → Sublattice P → {H : List (List ℕ)} → Every P H → Every P (rising H)
rising-every closed e = sort-every closed e

pub rising_before : (m : ℕ) {H : List (List ℕ)} → Pairwise (Apart m) H → Pairwise (Before m) (rising H)
rising_before m p = sort_pairwise (rows_exchange m) p

-- the k-th smallest: the column is sorted, and its places are those of the set
pub rising-sorted : (j : ℕ) (H : List (List ℕ)) → Pairwise ◌≤◌ (column j (rising H))
rising-sorted j H = rw (column-rising j H) (sort_sorted (column j H))

pub rising-perm : (j : ℕ) (H : List (List ℕ)) → Permᴰ (column j (rising H)) (column j H)
rising-perm j H = rw (column-rising j H) (sort-perm (column j H))
