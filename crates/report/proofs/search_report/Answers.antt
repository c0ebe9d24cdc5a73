-- The front list's answer decides, and its entries are handed on.
use Rattle.std.proofs.Common.{sym, ◌∙◌}
use Rattle.basics.specs.Laws.Writing.{writes_same}
use Rattle.report.proofs.Listing.{list_refused, list-found}
use Rattle.report.proofs.search_report.Goals as goal

pub returns-in-Err : goal.returns-in-Err
returns-in-Err c = writes_same (list_refused c.args.pattern c.args.text.now (sym c.leftmost.ensures.value ∙ c.in-Err.is)) c.put_refusal.ensures

pub returns-in-Ok : goal.returns-in-Ok
returns-in-Ok c = writes_same (list-found c.args.pattern c.args.text.now (sym c.leftmost.ensures.value ∙ c.in-Ok.is)) c.tally_report.ensures
