-- No report is longer than the list.
use Rattle.report.specs.Laws.Size.{report_whole}
use Rattle.bedbloomer.proofs.answer.Goals as goal

pub returns-clause-out_after : goal.returns-clause-out_after
returns-clause-out_after c = report_whole c.args.input.now c.args.out.now c.requires c.report.ensures.value
