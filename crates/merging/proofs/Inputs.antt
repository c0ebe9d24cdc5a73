-- What two patterns bring that pass their own tests and have equally many slots. Assumes nothing.
use Rattle.std.specs.Prelude.{Ok}
use Rattle.std.proofs.Common.{◌≡◌, ◌<◌, ◌≤◌, sym, arith}
use Rattle.pattern.specs.declared.Pattern.{Pattern}
use Rattle.pattern.specs.Tests.{pattern_verdict}
use Rattle.pattern.specs.Laws.Accepting.{pattern-accepted}
use Rattle.merging.specs.Steps.Inputs.{Mergeable}

pub few_slots : (f : Pattern) → (Ok tt) ≡ pattern_verdict f → f.count ≤ 16
few_slots f d = ((pattern-accepted f).0 (sym d)).few

pub mergeable : (f g : Pattern) → (Ok tt) ≡ pattern_verdict f → (Ok tt) ≡ pattern_verdict g → f.count ≡ g.count → Mergeable f g
mergeable f g d e same =
    let F = (pattern-accepted f).0 (sym d) in
    let G = (pattern-accepted g).0 (sym e) in
    record {
      few = F.few;
      first = λ j h. record { few = (F.slot j h).few; rising = F.rising j h };
      second = λ j h. let k : j < g.count = omega arith in record { few = (G.slot j k).few; rising = G.rising j k };
    }
