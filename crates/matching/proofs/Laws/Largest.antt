-- Demand 3 holds of the front and back lists of every accepted pattern, in any view of at most 20,000 places, whatever the span limits.
use Rattle.std.specs.Prelude.{ℕ, ◌≡◌, List, [], length, get_or}
use Rattle.std.proofs.Common.{arith, ap, ◌∙◌}
use Rattle.std.proofs.lemmas.List.{length-reverse}
use Rattle.pattern.specs.declared.Pattern.{Pattern}
use Rattle.pattern.specs.Accepted.{AcceptedInput}
use Rattle.matching.specs.Occurrence.{View, OccursIn, Apart}
use Rattle.matching.specs.Rows.{level, Before}
use Rattle.matching.specs.Lists.{leftmost_in, rightmost_in}
use Rattle.matching.specs.Largest.{LargestIn}
use Rattle.basics.specs.Laws.Collections.{every-reverse, pairwise_map, pairwise_reverse, get_d_reverse}
use Rattle.matching.proofs.Laws.Rows.{at_level}
use Rattle.matching.proofs.Laws.Lattice.{occurs_sublattice}
use Rattle.matching.proofs.Laws.Direction.{forwards, backwards}
use Rattle.matching.proofs.Laws.Bounding.{BoundedLattice, greedy_hits, greedy_apart, rising-hits, forward_longest, forward-earliest, backward-latest, equally_long}
use Rattle.matching.proofs.Laws.Extremes.{leftmost-front, from_last, from_last_back, rightmost-from_last}

apart-sym : (m : ℕ) (r s : List ℕ) → Apart m r s → Apart m s r
unfolding Apart
apart-sym m r s a j h e = a j h (cc)

module _ {f : Pattern} {v : View} (ok : AcceptedInput f v.places) where
  bounded : BoundedLattice f.count (OccursIn f v) (level f.count 0) (level f.count 65535)
  unfolding Before
  bounded = record {
    lattice = occurs_sublattice f v;
    after_first = λ r o j h. omega (arith, (o.word j h).inside, at_level f.count 0 j h);
    before_last = λ r o j h. omega (arith, (o.word j h).inside, at_level f.count 65535 j h, ok.short);
  }

  pub largest : LargestIn f v (leftmost_in f v) (rightmost_in f v)
  largest =
      let some = ok.pattern.some in
      let m = f.count in
      let F = leftmost-front f v some in
      let B = from_last_back f v some in
      let back-length : length (rightmost_in f v) ≡ length (from_last f v some) = ap length (rightmost-from_last f v some) ∙ length-reverse (from_last f v some) in
      record {
        front = record { occur = greedy_hits (forwards m) F; apart = greedy_apart (forwards m) F };
        back =
            rw (rightmost-from_last f v some)
            record {
              occur = every-reverse (greedy_hits (backwards m) B);
              apart = pairwise_reverse (pairwise_map (λ r s a. apart-sym m r s a) (greedy_apart (backwards m) B));
            };
        equal = omega (arith, equally_long bounded F B);
        most = λ H n. forward_longest bounded n.occur n.apart F;
        occur = λ H n. rising-hits bounded n.occur n.apart;
        above = λ H n. forward-earliest bounded n.occur n.apart F;
        below = λ H n i j k e e'.
            let q : get_or (rightmost_in f v) j [] ≡ get_or (from_last f v some) k [] =
            ap (λ (R : List (List ℕ)). get_or R j []) (rightmost-from_last f v some) ∙ get_d_reverse (from_last f v some) [] k j (omega arith) in
            rw q (backward-latest bounded n.occur n.apart B i k e);
      }
