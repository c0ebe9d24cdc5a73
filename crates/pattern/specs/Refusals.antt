-- The number and the place of each refusal (document 01, "Turned away"; 16: document 02, Job 3; 17 to 19: Job 5; 20 to 22: Job 9).
use Rattle.std.specs.Prelude.{ℕ, List, ◌++◌, codes, decimal}
use Rattle.pattern.specs.declared.refusal.Refusal.{Refusal}
use Rattle.pattern.specs.declared.refusal.Refusal.TheVariants.{SlotCount, WordCount, ZeroWord, Gap, Span, TextLength, RowLength, ListLength, Tally, Names, Values, FileLength, WordListLength, Client, Served, WordOrder, SlotsDiffer, NothingShared, TooManyWords, NotExpression, TooDeep, UnequalLengths}

-- its number in the table
abbrev pub number_of : Refusal → ℕ
number_of SlotCount = 1
number_of (WordCount slot) = 2
number_of (ZeroWord slot) = 3
number_of (Gap slot) = 4
number_of Span = 5
number_of TextLength = 6
number_of RowLength = 7
number_of (ListLength rows) = 8
number_of Tally = 9
number_of (Names line) = 10
number_of (Values line) = 11
number_of FileLength = 12
number_of WordListLength = 13
number_of Client = 14
number_of Served = 15
number_of (WordOrder slot) = 16
number_of SlotsDiffer = 17
number_of NothingShared = 18
number_of TooManyWords = 19
number_of NotExpression = 20
number_of TooDeep = 21
number_of UnequalLengths = 22

-- its place: the slot, the line, the count, or 0
abbrev pub place_of : Refusal → ℕ
place_of SlotCount = 0
place_of (WordCount slot) = slot
place_of (ZeroWord slot) = slot
place_of (Gap slot) = slot
place_of Span = 0
place_of TextLength = 0
place_of RowLength = 0
place_of (ListLength rows) = rows
place_of Tally = 0
place_of (Names line) = line
place_of (Values line) = line
place_of FileLength = 0
place_of WordListLength = 0
place_of Client = 0
place_of Served = 0
place_of (WordOrder slot) = slot
place_of SlotsDiffer = 0
place_of NothingShared = 0
place_of TooManyWords = 0
place_of NotExpression = 0
place_of TooDeep = 0
place_of UnequalLengths = 0

-- as text: `refused`, its number and its place
abbrev pub shown : Refusal → List ℕ
shown why = codes "refused " ++ decimal (number_of why) ++ codes " " ++ decimal (place_of why)
