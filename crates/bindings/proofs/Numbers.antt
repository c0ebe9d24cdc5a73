-- A refusal's number is from 1 to 99. Assumes nothing.
use Prim.Native.Nat.{◌≤◌}
use native.Mathlib.Omega.{arith}
use Rattle.pattern.specs.declared.refusal.Refusal.{Refusal}
use Rattle.pattern.specs.declared.refusal.Refusal.TheVariants.{SlotCount, WordCount, ZeroWord, Gap, Span, TextLength, RowLength, ListLength, Tally, Names, Values, FileLength, WordListLength, Client, Served, WordOrder, SlotsDiffer, NothingShared, TooManyWords, NotExpression, TooDeep, UnequalLengths}
use Rattle.pattern.specs.Refusals.{number_of}

pub number_range : (why : Refusal) → (1 ≤ number_of why) × (number_of why ≤ 99)
number_range SlotCount = (omega arith, omega arith)
number_range (WordCount slot) = (omega arith, omega arith)
number_range (ZeroWord slot) = (omega arith, omega arith)
number_range (Gap slot) = (omega arith, omega arith)
number_range Span = (omega arith, omega arith)
number_range TextLength = (omega arith, omega arith)
number_range RowLength = (omega arith, omega arith)
number_range (ListLength rows) = (omega arith, omega arith)
number_range Tally = (omega arith, omega arith)
number_range (Names line) = (omega arith, omega arith)
number_range (Values line) = (omega arith, omega arith)
number_range FileLength = (omega arith, omega arith)
number_range WordListLength = (omega arith, omega arith)
number_range Client = (omega arith, omega arith)
number_range Served = (omega arith, omega arith)
number_range (WordOrder slot) = (omega arith, omega arith)
number_range SlotsDiffer = (omega arith, omega arith)
number_range NothingShared = (omega arith, omega arith)
number_range TooManyWords = (omega arith, omega arith)
number_range NotExpression = (omega arith, omega arith)
number_range TooDeep = (omega arith, omega arith)
number_range UnequalLengths = (omega arith, omega arith)
