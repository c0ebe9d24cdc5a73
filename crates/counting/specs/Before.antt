-- What the tally and the column promised before document 02, Job 8: one number of 64 bits each, and 9 where a tally was over 2 ^ 64 - 1.
use Rattle.std.specs.Prelude.{ℕ, ◌-◌, ◌^◌, Bool, List, length, nat_lt, Result, Ok, Err}
use Rattle.basics.specs.Choice.{pick}
use Rattle.pattern.specs.declared.Pattern.{Pattern}
use Rattle.pattern.specs.declared.refusal.Refusal.{Refusal}
use Rattle.pattern.specs.declared.refusal.Refusal.TheVariants.{Tally}
use Rattle.pattern.specs.Tests.{Verdict, input_verdict}
use Rattle.matching.specs.Occurrences.{occurrences}
use Rattle.counting.specs.Halves.{high, low}
use Rattle.counting.specs.Starts.{column}
use Rattle.counting.specs.Answers.{started_after, column_by}

-- more than 64 bits hold
abbrev pub too_many_before : ℕ → Bool
too_many_before n = nat_lt (2 ^ 64 - 1) n

-- ---- the tally

-- its answer for so many occurrences, one number, where the tests up to 6 come to the verdict
abbrev pub single_after : Verdict → ℕ → Result ℕ Refusal
single_after (Ok tt) n = pick (too_many_before n) (Err Tally) (Ok n)
single_after (Err why) n = Err why

-- the tally
abbrev pub tallied_before : Pattern → List ℕ → Result ℕ Refusal
tallied_before f t = single_after (input_verdict f (length t)) (length (occurrences f t))

-- what an answer was before: 9 where its high half is not 0, else its low half
abbrev pub narrowed : Result ℕ Refusal → Result ℕ Refusal
narrowed (Ok n) = pick (nat_lt 0 (high n)) (Err Tally) (Ok (low n))
narrowed (Err why) = Err why

-- ---- the column

-- its answer, for a list of `room` numbers
abbrev pub started_before : Pattern → List ℕ → ℕ → Result ℕ Refusal
started_before f t room = started_after (input_verdict f (length t)) (length t) (nat_lt room (length t)) (too_many_before (length (occurrences f t)))

-- the caller's list at the end
abbrev pub starts_written_before : Pattern → List ℕ → List ℕ → List ℕ
starts_written_before f t l = column_by (started_before f t (length l)) (column f t) l
