-- `counting::tables::Tables::sentence` meets its contract: the entry of an index is a place past it.
use Rattle.std.proofs.Common.{arith}
use Rattle.counting.proofs.Parting.{last_of}
use Rattle.counting.proofs.tables.Tables.sentence.Goals as goal

pub overflow_sub-places : goal.overflow_sub-places
overflow_sub-places c = omega (arith, last_of c.requires.plan c.requires.inside)
