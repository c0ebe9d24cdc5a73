-- `counting::column::fill_text` meets its contract: the tables are those of the pattern and the text.
use Rattle.counting.proofs.Parting.{places_of}
use Rattle.counting.proofs.column.fill_text.Goals as goal

pub fill-requires-clause-plan : goal.fill-requires-clause-plan
fill-requires-clause-plan c = c.of-tables.ensures.plan

pub fill-requires-clause-blank : goal.fill-requires-clause-blank
fill-requires-clause-blank c = rw (places_of c.of-tables.ensures) c.requires.blank

pub returns : goal.returns
returns c = let p = c.of-tables.ensures in rw (p.pattern, p.view) at (c.fill.ensures p.plan)
