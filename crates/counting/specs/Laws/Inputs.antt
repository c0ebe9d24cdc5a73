-- What passes the tests is an accepted pattern and text.
use Rattle.std.specs.Prelude.{◌≡◌, ℕ, ◌<◌, ◌≤◌, List, length, Ok}
use Rattle.pattern.specs.declared.Pattern.{Pattern}
use Rattle.pattern.specs.Accepted.{Accepted}
use Rattle.pattern.specs.Patterns.{slot_at}
use Rattle.pattern.specs.Tests.{input_verdict}
use Rattle.pattern.specs.Laws.Accepting.{input-accepted}
use Rattle.matching.specs.Occurrence.{plain}
use Rattle.matching.proofs.Laws.Sentences.{accepted_no_end}
use Rattle.counting.specs.Steps.Inputs.{Input}

pub passed : {f : Pattern} (t : List ℕ) → input_verdict f (length t) ≡ Ok tt → Input f (plain f t)
passed {f} t e = let a = (input-accepted f (length t)).0 e in record { pattern = a.pattern; short = a.short; no_end = accepted_no_end a.pattern t }

pub gaps : {f : Pattern} → Accepted f → (j : ℕ) → j < f.count → ((slot_at f j).low ≤ (slot_at f j).high) × ((slot_at f j).high ≤ 63)
gaps ok j h = let a = ok.slot j h in (a.ordered, a.narrow)
