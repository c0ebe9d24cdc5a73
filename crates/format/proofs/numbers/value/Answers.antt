-- What `decimal` ensures, or 0.
use Rattle.std.proofs.Common.{ℕ, Option, unwrap_or, ap, ◌∙◌}
use Rattle.format.proofs.ByteSteps.{number_or}
use Rattle.format.proofs.numbers.value.Goals as goal

pub returns : goal.returns
returns c = c.unwrap_or.ensures ∙ ap (λ (o : Option ℕ). unwrap_or o 0) c.decimal.ensures ∙ number_or c.args.s.now
