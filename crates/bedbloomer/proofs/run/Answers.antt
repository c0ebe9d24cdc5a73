-- What was read is the whole input, or fills the list; its report is that of the whole input.
use Rattle.std.proofs.Common.{arith}
use Rattle.std.specs.Io.KnownBytes.{Appends}
use Rattle.bedbloomer.proofs.Whole.{whole_report}
use Rattle.bedbloomer.proofs.run.Goals as goal

pub returns-in-Ok-print-clause-reports : goal.returns-in-Ok-print-clause-reports
returns-in-Ok-print-clause-reports g c =
    let read = c.in-Ok.ensures in
    whole_report
    _
    _
    c.read_all.new.list
    c.in-Ok.n
    (Appends (g.W.Write.contents c.args.output.now) (g.W.Write.contents c.print.new.output))
    (omega arith)
    read.within
    read.consumes
    read.ends
    c.in-Ok-print.ensures
