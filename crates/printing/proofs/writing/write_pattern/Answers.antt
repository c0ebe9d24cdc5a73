-- The tests decide, then the room: the file's own list has room for all of it. What the clause `typed` says is what owning the pattern tells; an
-- answer for each way out, since with `using` none of the three was found.
use Rattle.std.proofs.Common.{sym}
use Rattle.pattern.specs.Laws.Accepting.{pattern-accepted}
use Rattle.printing.proofs.Known.{pattern-typed, printed_whole, written_whole}
use Rattle.printing.proofs.writing.write_pattern.Goals as goal

pub returns-in_err-check-clause-typed : goal.returns-in_err-check-clause-typed
returns-in_err-check-clause-typed c = pattern-typed c.args.pattern _ c.well_formed.0

pub put_pattern-n-requires : goal.put_pattern-n-requires
put_pattern-n-requires c = ((pattern-accepted c.args.pattern).0 (sym c.in_ok-check.ensures)).few

pub returns-then-out-n-clause-typed : goal.returns-then-out-n-clause-typed
returns-then-out-n-clause-typed c = pattern-typed c.args.pattern _ c.well_formed.0

pub returns-clause-value : goal.returns-clause-value
returns-clause-value c = printed_whole (pattern-typed c.args.pattern _ c.well_formed.0) (sym c.in_ok-check.ensures) c.put_pattern-n.ensures _ c.if-out-n.false

pub returns-clause-out_after : goal.returns-clause-out_after
returns-clause-out_after c = written_whole (pattern-typed c.args.pattern _ c.well_formed.0) (sym c.in_ok-check.ensures) c.put_pattern-n.ensures _ c.args.out.now c.if-out-n.false c.copy_from_slice.ensures.after

pub returns-clause-typed : goal.returns-clause-typed
returns-clause-typed c = pattern-typed c.args.pattern _ c.well_formed.0
