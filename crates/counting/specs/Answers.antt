-- What the calls answer, by the tests of document 01's table in their order; of the column, and of 9, by document 02.
use Rattle.std.specs.Prelude.{ℕ, ◌-◌, ◌*◌, ◌^◌, Bool, List, length, nat_lt, Result, Ok, Err}
use Rattle.pattern.specs.declared.Pattern.{Pattern}
use Rattle.pattern.specs.declared.refusal.Refusal.{Refusal}
use Rattle.pattern.specs.declared.refusal.Refusal.TheVariants.{ListLength, Tally}
use Rattle.basics.specs.Choice.{pick}
use Rattle.basics.specs.Written.{over}
use Rattle.pattern.specs.Tests.{Verdict, input_verdict}
use Rattle.matching.specs.Occurrences.{occurrences}
use Rattle.matching.specs.Answers.{filled}
use Rattle.counting.specs.Halves.{halves}
use Rattle.counting.specs.Starts.{column}

-- ---- the tally: 9 where the number is over 2 ^ 128 - 1, as it never is (`Laws/Nine`)

-- more than 128 bits hold
abbrev pub too_many : ℕ → Bool
too_many n = nat_lt (2 ^ 128 - 1) n

-- the answer for so many occurrences
abbrev pub total_of : ℕ → Result ℕ Refusal
total_of n = pick (too_many n) (Err Tally) (Ok n)

-- the same where the tests up to 6 come to the verdict
abbrev pub tallied_after : Verdict → ℕ → Result ℕ Refusal
tallied_after (Ok tt) n = total_of n
tallied_after (Err why) n = Err why

-- the tally (document 01: tally)
abbrev pub tallied : Pattern → List ℕ → Result ℕ Refusal
tallied f t = tallied_after (input_verdict f (length t)) (length (occurrences f t))

-- ---- all occurrences: 8 where the list is shorter than rows times slots, with the place 0

-- the answer, the number of rows, for so many rows of m places and a list of n, where the tests up to 6 come to the verdict
abbrev pub listed_after : Verdict → ℕ → ℕ → ℕ → Result ℕ Refusal
listed_after (Ok tt) rows m n = pick (nat_lt n (rows * m)) (Err (ListLength 0)) (Ok rows)
listed_after (Err why) rows m n = Err why

-- the answer for the list of all (document 01: full list), for a list of n places
abbrev pub all_listed : Pattern → List ℕ → ℕ → Result ℕ Refusal
all_listed f t n = listed_after (input_verdict f (length t)) (length (occurrences f t)) f.count n

-- the caller's list at the end
abbrev pub all_written : Pattern → List ℕ → List ℕ → List ℕ
all_written f t l = filled (input_verdict f (length t)) f.count (occurrences f t) l

-- ---- how many occurrences start at each word: 8 where the list is shorter than two numbers for each word, with the place 0, then 9 as for
-- the tally

-- the answer, the number of words, for so many words, where the tests up to 6 come to the verdict: by whether the list is short and the
-- total too large
abbrev pub started_after : Verdict → ℕ → Bool → Bool → Result ℕ Refusal
started_after (Ok tt) words short large = pick short (Err (ListLength 0)) (pick large (Err Tally) (Ok words))
started_after (Err why) words short large = Err why

-- the answer (document 02: hits that start at each word), for a list of `room` numbers
abbrev pub started : Pattern → List ℕ → ℕ → Result ℕ Refusal
started f t room = started_after (input_verdict f (length t)) (length t) (nat_lt room (length t * 2)) (too_many (length (occurrences f t)))

-- with a list that is long enough: the answer for so many words, by the tally's (`starts_like_tally`)
abbrev pub started_like : ℕ → Result ℕ Refusal → Result ℕ Refusal
started_like words (Ok n) = Ok words
started_like words (Err why) = Err why

-- what a list holds by the answer: the numbers over its start, or all of it as it was
abbrev pub column_by : Result ℕ Refusal → List ℕ → List ℕ → List ℕ
column_by (Ok n) c l = over l c
column_by (Err why) c l = l

-- the caller's list at the end: with the halves of the column
abbrev pub starts_written : Pattern → List ℕ → List ℕ → List ℕ
starts_written f t l = column_by (started f t (length l)) (halves (column f t)) l
