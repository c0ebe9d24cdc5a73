-- Rows one after the other.
use Rattle.std.specs.Prelude.{ℕ, ◌*◌, ◌≡◌, List, length}
use Rattle.std.proofs.Common.{suc-mul, arith, length-append}
use Rattle.basics.specs.Collections.{Every, none, more}
use Rattle.basics.specs.Written.{flat}

-- rows of m places have m entries each
pub length-flat : (m : ℕ) {R : List (List ℕ)} → Every (λ r. length r ≡ m) R → length (flat R) ≡ length R * m
unfolding flat
length-flat m none = omega arith
length-flat m (more {x = r} {xs = R} e h) = omega (arith, length-append r (flat R), length-flat m h, suc-mul (length R) m)
