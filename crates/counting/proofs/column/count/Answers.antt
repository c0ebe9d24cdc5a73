-- `counting::column::count` meets its contract: a new list is a column of zeros, and the sum of the column is the number.
use Rattle.std.proofs.Common.{◌∙◌, arith}
use Rattle.counting.proofs.Columns.{blank_new, column-total, column_fits}
use Rattle.counting.proofs.column.count.Goals as goal

pub fill-requires-clause-blank : goal.fill-requires-clause-blank
fill-requires-clause-blank c = blank_new 20001 _ (omega (arith, c.requires.handed.input.short))

pub sum_of-requires : goal.sum_of-requires
sum_of-requires c = let g = c.requires in column_fits g.handed.input (omega (arith, c.fill.auto.column, g.handed.input.short)) (c.fill.ensures g)

pub returns : goal.returns
returns c = λ g. c.sum_of.ensures ∙ column-total g.handed.input (omega (arith, c.fill.auto.column, g.handed.input.short)) (c.fill.ensures g)
