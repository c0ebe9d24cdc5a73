-- The length is tested, then the files are parted where the specification parts them.
use Rattle.std.proofs.Common.{arith, rules}
use Rattle.basics.specs.Laws.Writing.{writes_same, writes_all}
use Rattle.report.specs.Laws.Files.{parting_within}
use Rattle.report.proofs.Reading.{long_input, input-parted}
use Rattle.report.proofs.report.Goals as goal

pub returns-then-n-gt-FILE-clause-value : goal.returns-then-n-gt-FILE-clause-value
returns-then-n-gt-FILE-clause-value c = writes_all (writes_same (long_input c.args.input.now (omega arith)) c.put_refusal.ensures)

pub overflow_add-end : goal.overflow_add-end
overflow_add-end c = omega (arith, parting_within c.args.input.now 10)

pub slice_bounds-files_report-end : goal.slice_bounds-files_report-end
slice_bounds-files_report-end c = let within = parting_within c.args.input.now 10 in search rules

pub returns-clause-value : goal.returns-clause-value
returns-clause-value c =
    let parted = c.parted-end in
    let start = c.min-start in
    writes_all (writes_same (input-parted c.args.input.now parted.result start.result (omega arith) parted.ensures start.ensures) c.files_report.ensures)
