-- A count is no larger than the text's limit.
use Rattle.std.proofs.Common.{arith, sym, ◌∙◌}
use Rattle.bindings.proofs.Counting.{few_rows}
use Rattle.bindings.proofs.files.bedbloomer_count.Goals as goal

pub overflow_cast-result : goal.overflow_cast-result
overflow_cast-result c = omega (arith, few_rows c.args.pattern.now c.args.text.now c.in-Ok.count (sym c.count_in.ensures ∙ c.in-Ok.is))
