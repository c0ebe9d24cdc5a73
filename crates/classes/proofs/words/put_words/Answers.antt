-- `put_words` meets its contract. The invariant: the first i words are written, and the rest of the list is as it was.
use Rattle.std.proofs.Common.{arith}
use Rattle.classes.proofs.Writing.{written_more}
use Rattle.classes.proofs.words.put_words.Goals as goal

pub loop-i-preserved : goal.loop-i-preserved
loop-i-preserved c =
    written_more c.requires.0 c.contains-met.result c.recoded_word.result c.loop-i.invariant c.requires.1 c.loop-i-test.true
    c.contains-met.ensures (omega (arith, c.type_inv.classes c.loop-i.i)) c.recoded_word.ensures
