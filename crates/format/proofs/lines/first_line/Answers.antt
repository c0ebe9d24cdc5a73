-- The first line is closed where its end is not where the next one begins.
use Rattle.std.proofs.Common.{sym, length-take-le, arith}
use Rattle.basics.specs.Laws.Lending.{tail_is}
use Rattle.format.proofs.LineSteps.{first_closed, first_open}
use Rattle.format.proofs.lines.first_line.Goals as goal

pub returns-then-line : goal.returns-then-line
returns-then-line c = first_open c.args.s.now c.line_at-line.result c.line_at-line.ensures c.if-line.true

pub slice_bounds-result-end : goal.slice_bounds-result-end
slice_bounds-result-end c =
    let k = first_closed c.args.s.now c.line_at-line.result c.line_at-line.ensures c.if-line.false in
    sym (length-take-le c.line_at-line.result.end c.args.s.now (omega arith))

pub slice_bounds-result-count : goal.slice_bounds-result-count
slice_bounds-result-count c = let k = first_closed c.args.s.now c.line_at-line.result c.line_at-line.ensures c.if-line.false in omega arith

pub slice_bounds-result-start : goal.slice_bounds-result-start
slice_bounds-result-start c = let k = first_closed c.args.s.now c.line_at-line.result c.line_at-line.ensures c.if-line.false in omega arith

pub returns : goal.returns
returns c =
    let k = first_closed c.args.s.now c.line_at-line.result c.line_at-line.ensures c.if-line.false in
    rw (tail_is c.args.s.now c.line_at-line.result.next (omega arith)) k.closed
