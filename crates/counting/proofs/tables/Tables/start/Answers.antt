-- `counting::tables::Tables::start` meets its contract: the entry of an index is a place past it.
use Rattle.std.proofs.Common.{arith}
use Rattle.counting.proofs.Parting.{last_of}
use Rattle.counting.proofs.tables.Tables.start.Goals as goal

pub overflow_sub-rest : goal.overflow_sub-rest
overflow_sub-rest c = omega (arith, last_of c.requires.plan c.requires.inside)
