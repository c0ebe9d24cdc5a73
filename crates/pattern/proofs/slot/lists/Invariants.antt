-- `pattern::slot::lists` meets its contract. The invariant: the word is stated exactly if it is stated from entry i on.
use Rattle.std.proofs.Common.{◌≡◌, take, drop}
use Rattle.pattern.specs.Patterns.{member}
use Rattle.pattern.proofs.slot.lists.Given as goal

abbrev pub invariant-loop-i : goal.invariant-loop-i
invariant-loop-i l = member l.word (take l.count l.words) ≡ member l.word (drop l.i (take l.count l.words))
