-- The readers of alternative, conjunction and factor meet their contracts by the steps in ReaderSteps. The cycle's measure: three times the
-- bytes left, and the reader's level; a loop's: the bytes left behind the part so far.
use Rattle.std.proofs.Common.{◌+◌, ◌-◌, ◌*◌, length, Some}
use Rattle.classes.specs.Steps.Parts.{AlternativeRead, ConjunctionRead}
use Rattle.classes.proofs.reader.+alternative_conjunction_factor.Given as goal

abbrev pub decreases-alternative : goal.decreases-alternative
decreases-alternative l = 3 * (length l.s.now - l.at) + 2

abbrev pub decreases-conjunction : goal.decreases-conjunction
decreases-conjunction l = 3 * (length l.s.now - l.at) + 1

abbrev pub decreases-factor : goal.decreases-factor
decreases-factor l = 3 * (length l.s.now - l.at)

abbrev pub invariant-alternative-loop-next : goal.invariant-alternative-loop-next
invariant-alternative-loop-next l = AlternativeRead l.s l.at l.room (Some l.left)

abbrev pub decreases-alternative-loop-next : goal.decreases-alternative-loop-next
decreases-alternative-loop-next l = length l.s - l.left.end

abbrev pub invariant-conjunction-loop-next : goal.invariant-conjunction-loop-next
invariant-conjunction-loop-next l = ConjunctionRead l.s l.at l.room (Some l.left)

abbrev pub decreases-conjunction-loop-next : goal.decreases-conjunction-loop-next
decreases-conjunction-loop-next l = length l.s - l.left.end
