-- What passing the tests leaves to know of a pattern, a text and a row.
use Rattle.std.specs.Prelude.{ℕ, ◌≡◌, not, List, length, eqb, Ok}
use Rattle.std.proofs.Common.{eqb-true}
use Rattle.std.proofs.lemmas.Bool.{not-false}
use Rattle.pattern.specs.declared.Pattern.{Pattern}
use Rattle.pattern.specs.declared.refusal.Refusal.TheVariants.{RowLength}
use Rattle.pattern.specs.Tests.{input_verdict, refuse}
use Rattle.pattern.specs.Laws.Accepting.{input-accepted, then_accepted, refuse-accepted}
use Rattle.matching.specs.Answers.{row_verdict}
use Rattle.matching.specs.Steps.Settling.{Ready}

pub ready : (f : Pattern) (n : ℕ) → input_verdict f n ≡ Ok tt → Ready f n
ready f n e =
    let a = (input-accepted f n).0 e in
    record { some = a.pattern.some; few = a.pattern.few; least = a.pattern.least; short = a.short }

-- what the tests up to 7 leave to the searches
pub record RowAccepted (f : Pattern) (t row : List ℕ) : Type 0 where
  pub ready : Ready f (length t)
  pub size : length row ≡ f.count

pub row-accepted : {f : Pattern} {t row : List ℕ} → row_verdict f t row ≡ Ok tt → RowAccepted f t row
unfolding row_verdict
row-accepted {f} {t} {row} e =
    let b = then_accepted (input_verdict f (length t)) (refuse (not (eqb (length row) f.count)) RowLength (Ok tt)) e in
    record {
      ready = ready f (length t) b.0;
      size = eqb-true (length row) f.count (not-false (eqb (length row) f.count) (refuse-accepted (not (eqb (length row) f.count)) RowLength (Ok tt) b.1).0);
    }
