-- The first i words are written.
use Rattle.std.proofs.Common.{sym, ap, List, ℕ, map}
use Rattle.basics.specs.Laws.Writing.{writes_none, writes_same, writes_then}
use Rattle.format.specs.Shown.{digits, joined}
use Rattle.printing.proofs.Known.{stated_whole}
use Rattle.printing.specs.Laws.Printing.{no_words, words_more}
use Rattle.printing.proofs.writing.put_words.Goals as goal

pub loop-i-init : goal.loop-i-init
loop-i-init c = writes_same (sym (no_words c.args.words.now)) writes_none

pub loop-i-preserved : goal.loop-i-preserved
loop-i-preserved c = writes_same (sym (words_more _ _ c.loop-i-test.true)) (writes_then c.loop-i.invariant c.put_word-next.ensures)

pub returns : goal.returns
returns c = writes_same (ap (λ (ws : List ℕ). joined (map digits ws) 44) (stated_whole c.args.words.now c.args.count c.min.result c.loop-i.i c.min.ensures c.loop-i-test.false)) c.loop-i.invariant
