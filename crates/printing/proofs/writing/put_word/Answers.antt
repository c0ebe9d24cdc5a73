-- A comma where the word is not the first, then its digits.
use Rattle.std.proofs.Common.{arith, eq-eqb, ne_eqb}
use Rattle.basics.specs.Laws.Writing.{writes_of, writes_then}
use Rattle.printing.specs.Laws.Printing.{digits-written}
use Rattle.printing.proofs.writing.put_word.Goals as goal
use Rattle.printing.proofs.writing.put_word.Goals.{then-i-eq0, else-i-eq0}

pub returns : goal.returns
returns c =
    let w = rw (c.from.ensures, digits-written c.args.word (omega arith)) at c.put_number.ensures in
    elim c.if-i-eq0.branch [
      | then-i-eq0 b ↦ rw (eq-eqb _ _ b.if-i-eq0.true) (let v = rw (b.out-is, b.next-is) at w in writes_of (v.value, v.out_after))
      | else-i-eq0 b ↦ rw (ne_eqb _ _ b.if-i-eq0.false) (let v = rw (b.out-is, b.next-is) at w in let comma = b.put_byte-next.ensures in writes_then (writes_of (comma.value, comma.out_after)) (writes_of (v.value, v.out_after)))
    ]
