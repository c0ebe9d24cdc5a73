-- Where a row is found, the client is stored with the row's places as its first marks.
use Rattle.std.proofs.Common.{◌≡◌, sym, ◌∙◌, Some, rules}
use Rattle.matching.specs.Answers.{searched}
use Rattle.cursors.specs.Machine.{client_of, next_row}
use Rattle.cursors.proofs.Serving.{row_stored}
use Rattle.cursors.proofs.Cursors.next.Goals as goal

pub returns-clause-state : goal.returns-clause-state
returns-clause-state c =
    let a = c.args in
    let s = a.self.now in
    let found : searched (next_row (client_of s a.client) a.pattern a.text.now) ≡ Some c.in-Some.row = search rules in
    rw (c.put_client.ensures, c.moved.ensures, c.client_of-asking.ensures) (row_stored s a.client a.pattern a.text.now (sym c.next_verdict.ensures ∙ c.in_ok-next_verdict.was) found)
