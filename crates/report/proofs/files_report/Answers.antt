-- What was read decides, and the words read are handed on.
use Rattle.std.proofs.Common.{rules}
use Rattle.basics.specs.Laws.Writing.{writes_same}
use Rattle.report.proofs.Reading.{read_fits, read_refused, read_words}
use Rattle.report.proofs.files_report.Goals as goal

pub slice_bounds-words-end : goal.slice_bounds-words-end
slice_bounds-words-end c = let fits = read_fits c.args.pattern.now c.args.text.now c.read_input.ensures.0 c.in-Ok.input c.in-Ok.is in search rules

pub slice_bounds-search_report-end : goal.slice_bounds-search_report-end
slice_bounds-search_report-end c = let fits = read_fits c.args.pattern.now c.args.text.now c.read_input.ensures.0 c.in-Ok.input c.in-Ok.is in search rules

pub returns-in-Err : goal.returns-in-Err
returns-in-Err c = writes_same (read_refused c.args.pattern.now c.args.text.now c.read_input.ensures.0 c.in-Err.is) c.put_refusal.ensures

pub returns-in-Ok : goal.returns-in-Ok
returns-in-Ok c =
    let read = c.read_input.ensures in
    writes_same (read_words c.args.pattern.now c.args.text.now read.0 c.in-Ok.input c.in-Ok.is read.1) c.search_report.ensures
