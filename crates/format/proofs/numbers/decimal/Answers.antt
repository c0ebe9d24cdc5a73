-- The invariant: the number is v with the digits from the place on after it.
use Rattle.std.proofs.Common.{◌≡◌, ◌*◌, ◌+◌, ◌-◌, ℕ, length, drop, get_or, refl, sym, ◌∙◌, ap, arith}
use Rattle.format.specs.Bytes.{more}
use borrow.Author.Tests.{eqb-false, eqb-true}
use Rattle.format.proofs.ByteSteps.{decimal_more, decimal_none, decimal-padded, digit_is, digit_not, more_end, more_large, more_next, more_not, number_none, number_some}
use Rattle.format.proofs.numbers.decimal.Goals as goal
use Rattle.format.proofs.numbers.decimal.Goals.{then-is_empty-via-then-is_empty, then-is_empty-via-else-is_empty+then-s-gt1}

pub returns-then-is_empty : goal.returns-then-is_empty
returns-then-is_empty c =
    elim c.then-is_empty.branch [
      | then-is_empty-via-then-is_empty w ↦ number_none c.args.s.now (decimal_none c.args.s.now (eqb-true _ _ (sym c.is_empty.ensures ∙ w.if-is_empty.true)))
      | then-is_empty-via-else-is_empty+then-s-gt1 w ↦ number_none c.args.s.now (decimal-padded c.args.s.now w.if-s-gt1.true.0 w.if-s-gt1.true.1)
    ]

pub loop-b-init : goal.loop-b-init
loop-b-init c =
    let n : length c.args.s.now ≡ 0 → ⊥ = eqb-false _ _ (sym c.is_empty.ensures ∙ c.if-is_empty.false) in
    (omega arith, decimal_more c.args.s.now (omega arith) c.if-s-gt1.either)

pub returns-then-not-is_ascii_digit : goal.returns-then-not-is_ascii_digit
returns-then-not-is_ascii_digit c = number_none c.args.s.now (c.loop-b.invariant.1 ∙ more_not c.args.s.now c.loop-b.b-index c.loop-b.v _ c.loop-b-test.true refl (digit_not _ (sym c.is_ascii_digit.ensures.value ∙ c.if-not-is_ascii_digit.true)))

pub returns-then-v-gt65535 : goal.returns-then-v-gt65535
returns-then-v-gt65535 c =
    let d = digit_is (get_or c.args.s.now c.loop-b.b-index 0) (sym c.is_ascii_digit.ensures.value ∙ c.if-not-is_ascii_digit.false) in
    number_none c.args.s.now (c.loop-b.invariant.1 ∙ more_large c.args.s.now c.loop-b.b-index c.loop-b.v _ c.loop-b-test.true refl d.0 d.1 (omega (arith, c.from.ensures)))

pub loop-b-preserved : goal.loop-b-preserved
loop-b-preserved c =
    let d = digit_is (get_or c.args.s.now c.loop-b.b-index 0) (sym c.is_ascii_digit.ensures.value ∙ c.if-not-is_ascii_digit.false) in
    let e : c.loop-b.v * 10 + (get_or c.args.s.now c.loop-b.b-index 0 - 48) ≡ c.loop-b.v * 10 + c.from.result = omega (arith, c.from.ensures) in
    (omega arith, c.loop-b.invariant.1 ∙ more_next c.args.s.now c.loop-b.b-index c.loop-b.v _ c.loop-b-test.true refl d.0 d.1 (omega (arith, c.from.ensures)) ∙ ap (λ (k : ℕ). more (drop (c.loop-b.b-index + 1) c.args.s.now) k) e)

pub returns : goal.returns
returns c =
    let e : c.loop-b.b-index ≡ length c.args.s.now = omega arith in
    number_some c.args.s.now c.loop-b.v (c.loop-b.invariant.1 ∙ ap (λ (k : ℕ). more (drop k c.args.s.now) c.loop-b.v) e ∙ more_end c.args.s.now c.loop-b.v) c.loop-b.invariant.0
