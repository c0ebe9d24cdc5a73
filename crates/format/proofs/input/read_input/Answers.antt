-- Each test, and what each reader ensures, tells the definition one step more.
use Rattle.std.proofs.Common.{rules, sym, arith}
use Rattle.format.proofs.InputSteps.{both_read, pattern_long, pattern_refused, text_long, text_refused}
use Rattle.format.proofs.input.read_input.Goals as goal

pub returns-then-pattern-gt-FILE : goal.returns-then-pattern-gt-FILE
returns-then-pattern-gt-FILE c =
    let d = pattern_long c.args.pattern.now c.args.text.now c.args.words.now (omega arith) in
    (d.answer, d.content)

pub returns-then-text-gt-FILE : goal.returns-then-text-gt-FILE
returns-then-text-gt-FILE c =
    let d = text_long c.args.pattern.now c.args.text.now c.args.words.now (omega arith) (omega arith) in
    (d.answer, d.content)

pub returns-in_err-pattern : goal.returns-in_err-pattern
returns-in_err-pattern c =
    let d = pattern_refused c.args.pattern.now c.args.text.now c.args.words.now (omega arith) (omega arith) _ (sym c.in_err-pattern.ensures) in
    (rw (← (d.answer)) (search rules), d.content)

pub returns-in_err-words : goal.returns-in_err-words
returns-in_err-words c =
    let d = text_refused c.args.pattern.now c.args.text.now c.args.words.now (omega arith) (omega arith) c.in_ok-pattern.pattern (sym c.in_ok-pattern.ensures) _ c.in_err-words.ensures.1 _ (sym c.in_err-words.ensures.0) in
    (rw (← (d.answer)) (search rules), d.content)

pub returns : goal.returns
returns c =
    let d = both_read c.args.pattern.now c.args.text.now c.args.words.now (omega arith) (omega arith) c.in_ok-pattern.pattern (sym c.in_ok-pattern.ensures) _ c.in_ok-words.ensures.1 c.in_ok-words.words (sym c.in_ok-words.ensures.0) in
    (d.answer, d.content)
