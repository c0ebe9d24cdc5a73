-- `store` meets its contract: rows written from the end and turned round are the rows of the text.
use Rattle.std.proofs.Common.{◌++◌, ◌*◌, drop, ap, List, ℕ}
use Rattle.matching.proofs.Listing.{stored_back}
use Rattle.matching.proofs.lists.store.Goals as goal

pub returns-then-side-clause-list_after : goal.returns-then-side-clause-list_after
returns-then-side-clause-list_after c =
    let w = c.write_rows-rows in
    stored_back c.args.side.now c.args.list.now w.ensures.value.0 w.ensures.list_after c.if-side.true
    (ap (λ (x : List ℕ). x ++ drop (w.result * c.args.side.now.pattern.now.count) w.new.list) c.turn_back.ensures)
