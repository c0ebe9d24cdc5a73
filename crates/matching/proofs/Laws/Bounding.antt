-- Any set of rows between two rows of marks that is closed under the earlier and the later place at each slot: its greedy lists
-- bound, row by row, the rising order of every set of such rows that are apart.
use Rattle.std.specs.Prelude.{ℕ, ◌+◌, ◌≤◌, ◌<◌, ◌≡◌, List, [], reverse, length, get_or}
use Rattle.std.proofs.Common.{arith}
use Rattle.std.proofs.lemmas.List.{length-reverse}
use Rattle.matching.specs.Occurrence.{Apart}
use Rattle.basics.specs.Collections.{Every, Pairwise}
use Rattle.matching.specs.Rows.{Before, NotAfter, After, NotBefore}
use Rattle.matching.specs.Rising.{rising}
use Rattle.basics.specs.Laws.Collections.{every_map, pairwise_map, every-reverse, pairwise_reverse, get_d_reverse}
use Rattle.matching.proofs.Laws.Rows.{Sublattice}
use Rattle.matching.proofs.Laws.Direction.{Direction, forwards, backwards}
use Rattle.matching.proofs.Laws.Rising.{length-rising, rising-every, rising_before}
use Rattle.matching.proofs.Laws.Greedy.{Greedy, Chain, greedy_chain, chain_hits, chain_of, chain_pairwise, greedy_longest, greedy_nearest}

module _ (m : ℕ) (Hit : List ℕ → Type 0) where
  -- the first row is the earliest hit past the marks, each later one the earliest past the row before, and no hit is past the last
  abbrev pub Forward : List ℕ → List (List ℕ) → Type 0
  Forward = Greedy Hit (Before m) (NotAfter m)

  -- the same from the end: the first row is the latest hit before the marks, each later one the latest before the row before
  abbrev pub Backward : List ℕ → List (List ℕ) → Type 0
  Backward = Greedy Hit (After m) (NotBefore m)

  -- the hits are closed under minimum and maximum, and lie between two rows of marks
  pub record BoundedLattice (first last : List ℕ) : Type 0 where
    pub lattice : Sublattice Hit
    pub after_first : (r : List ℕ) → Hit r → Before m first r
    pub before_last : (r : List ℕ) → Hit r → Before m r last

module _ {m : ℕ} {Hit : List ℕ → Type 0} where
  module _ {◌≺◌ ◌≼◌ : List ℕ → List ℕ → Type 0} {near : List ℕ → List ℕ → List ℕ} (d : Direction m ◌≺◌ ◌≼◌ near) where
    pub greedy_hits : {marks : List ℕ} {F : List (List ℕ)} → Greedy Hit ◌≺◌ ◌≼◌ marks F → Every Hit F
    greedy_hits g = chain_hits (greedy_chain g)

    pub greedy_apart : {marks : List ℕ} {F : List (List ℕ)} → Greedy Hit ◌≺◌ ◌≼◌ marks F → Pairwise (Apart m) F
    greedy_apart g = pairwise_map d.past_apart (chain_pairwise d (greedy_chain g))

  module _ {first last : List ℕ} (L : BoundedLattice m Hit first last) {H : List (List ℕ)} (hits : Every Hit H) (apart : Pairwise (Apart m) H) where
    pub rising-hits : Every Hit (rising H)
    rising-hits = rising-every L.lattice hits

    upwards : Chain Hit (Before m) first (rising H)
    upwards = chain_of rising-hits (every_map L.after_first rising-hits) (rising_before m apart)

    downwards : Chain Hit (After m) last (reverse (rising H))
    downwards = let h = every-reverse rising-hits in chain_of h (every_map L.before_last h) (pairwise_reverse (rising_before m apart))

    pub forward_longest : {F : List (List ℕ)} → Forward m Hit first F → length H ≤ length F
    forward_longest g = omega (arith, greedy_longest (forwards m) g upwards, length-rising H)

    pub forward-earliest : {F : List (List ℕ)} → Forward m Hit first F → (k : ℕ) → k < length H → NotAfter m (get_or F k []) (get_or (rising H) k [])
    forward-earliest g k h = greedy_nearest (forwards m) g upwards k (omega (arith, length-rising H))

    -- and the mirror: row i of the rising order is row k from its end
    pub backward_longest : {B : List (List ℕ)} → Backward m Hit last B → length H ≤ length B
    backward_longest g = omega (arith, greedy_longest (backwards m) g downwards, length-rising H, length-reverse (rising H))

    pub backward-latest : {B : List (List ℕ)} → Backward m Hit last B → (i k : ℕ) → i + k + 1 ≡ length H → NotAfter m (get_or (rising H) i []) (get_or B k [])
    backward-latest g i k e =
        rw (← (get_d_reverse (rising H) [] i k (omega (arith, length-rising H))))
        (greedy_nearest (backwards m) g downwards k (omega (arith, length-rising H, length-reverse (rising H))))

  pub equally_long : {first last : List ℕ} → BoundedLattice m Hit first last → {F B : List (List ℕ)}
      → Forward m Hit first F → Backward m Hit last B → length F ≡ length B
  equally_long L f b =
      omega (
        arith,
        backward_longest L (greedy_hits (forwards m) f) (greedy_apart (forwards m) f) b,
        forward_longest L (greedy_hits (backwards m) b) (greedy_apart (backwards m) b) f,
      )
