use Rattle.std.proofs.Common.{◌≡◌, ◌-◌, ◌*◌, ◌≤◌}
use Rattle.matching.specs.Spans.{distance}
use Rattle.counting.specs.Steps.Plans.{gap_at}
use Rattle.counting.proofs.gaps.distances.Given as goal

abbrev pub invariant-loop-k : goal.invariant-loop-k
invariant-loop-k l = record {
  some : 1 ≤ l.k;
  small : (l.near ≤ 64 * l.k) × (l.far ≤ 64 * l.k);
  near : l.near ≡ distance (λ j. (gap_at l.gaps j).low) (l.k - 1);
  far : l.far ≡ distance (λ j. (gap_at l.gaps j).high) (l.k - 1);
}
