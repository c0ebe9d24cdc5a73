-- A list has at most as many rows as there are places. Assumes nothing.
use Rattle.std.specs.Prelude.{ℕ, zero, suc, ◌≤◌, List, length}
use Rattle.std.proofs.Common.{arith}
use Rattle.std.proofs.Math.Option.{Option, none as nothing, some as just}
use Rattle.pattern.specs.declared.Pattern.{Pattern}
use Rattle.matching.specs.Occurrence.{View}
use Rattle.matching.specs.Lists.{onward, follow, leftmost_in}

onward-length : (o : Option (List ℕ)) (rest : List ℕ → List (List ℕ)) (n : ℕ) → ((r : List ℕ) → length (rest r) ≤ n) → length (onward o rest) ≤ suc n
unfolding onward
onward-length nothing rest n h = omega arith
onward-length (just r) rest n h = omega (arith, h r)

follow-length : (search : List ℕ → Option (List ℕ)) (n : ℕ) (marks : List ℕ) → length (follow search n marks) ≤ n
unfolding follow
follow-length search zero marks = omega arith
follow-length search (suc n) marks = onward-length (search marks) (λ r. follow search n r) n (λ r. follow-length search n r)

pub leftmost-length : (g : Pattern) (u : View) → length (leftmost_in g u) ≤ u.places
unfolding leftmost_in
leftmost-length g u = follow-length _ u.places _
