-- `counting::tables::Tables::of` meets its contract: the tables are those of the pattern and the text.
use Rattle.std.proofs.Common.{refl}
use Rattle.counting.proofs.Parting.{planned}
use Rattle.counting.proofs.tables.Tables.of.Goals as goal

pub returns : goal.returns
returns c = record {
  plan = planned c.requires c.of.ensures c.tabulate.ensures (c.horizons.ensures c.args.pattern.now);
  pattern = refl;
  view = refl;
}
