-- What the steps behind the tests up to 6 are given.
use Rattle.std.specs.Prelude.{◌≤◌}
use Rattle.pattern.specs.declared.Pattern.{Pattern}
use Rattle.pattern.specs.Accepted.{Accepted}
use Rattle.matching.specs.Occurrence.{View}
use Rattle.matching.specs.Spans.{NoEndFits}

-- an accepted pattern, no more places than a text may have, and no slot fits one at which a sentence ends
pub record Input (f : Pattern) (v : View) : Type 0 where
  pub pattern : Accepted f
  pub short : v.places ≤ 20000
  pub no_end : NoEndFits f.count v
