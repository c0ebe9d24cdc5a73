-- Each test tells the definition one step more, and `from_values` ensures the rest.
use Rattle.std.proofs.Common.{rules, sym, ◌∙◌}
use Rattle.format.specs.Steps.ClosedLines.{ClosedLine, OpenLine}
use Rattle.format.proofs.PatternSteps.{names_open, names_right, names-wrong, read_long}
use Rattle.format.proofs.patterns.read_pattern.Goals as goal
use Rattle.format.proofs.patterns.read_pattern.Goals.{In_ok-names}

first : (c : In_ok-names) → ClosedLine c.args.bytes.now c.in_ok-names.names.now c.in_ok-names.rest.now
first c = rw c.in_ok-names.ensures.ok_part at c.first_line.ensures

pub returns-then-bytes-gt-FILE : goal.returns-then-bytes-gt-FILE
returns-then-bytes-gt-FILE c = sym (read_long c.args.bytes.now c.if-bytes-gt-FILE.true)

pub returns-in_err-names : goal.returns-in_err-names
returns-in_err-names c =
    let o : OpenLine c.args.bytes.now = rw c.in_err-names.ensures.ok_part at c.first_line.ensures in
    rw (names_open c.args.bytes.now c.if-bytes-gt-FILE.false o) (search rules)

pub returns-then-not-span_names : goal.returns-then-not-span_names
returns-then-not-span_names c =
    sym (names-wrong c.args.bytes.now c.if-bytes-gt-FILE.false (first (goal.at.returns-then-not-span_names c).In_ok-names) (sym c.span_names.ensures ∙ c.if-not-span_names.true))

pub returns : goal.returns
returns c =
    c.from_values.ensures
    ∙ sym (names_right c.args.bytes.now c.if-bytes-gt-FILE.false (first (goal.at.returns c).In_ok-names) (sym c.span_names.ensures ∙ c.if-not-span_names.false) c.column-i.result c.column-j.result c.column-i.ensures c.column-j.ensures)
