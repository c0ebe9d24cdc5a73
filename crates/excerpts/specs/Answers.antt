-- What the test of a row and the excerpt answer: the tests in document 01's order, then what the meaning says.
use Rattle.std.specs.Prelude.{ℕ, ◌-◌, Bool, List, [], take, drop, true, false, Result, Ok, Err}
use Rattle.pattern.specs.declared.Pattern.{Pattern}
use Rattle.matching.specs.Occurrence.{at}
use Rattle.matching.specs.Occurrences.{occurs}
use Rattle.matching.specs.Answers.{row_verdict}
use Rattle.pattern.specs.declared.refusal.Refusal.{Refusal}
use Rattle.pattern.specs.Tests.{Verdict}

-- where the tests come to the verdict
abbrev pub tested_by : Verdict → Bool → Result Bool Refusal
tested_by (Ok tt) occurs = Ok occurs
tested_by (Err why) occurs = Err why

-- the answer for a row (document 01: test)
abbrev pub is_occurrence : Pattern → List ℕ → List ℕ → Result Bool Refusal
is_occurrence f t row = tested_by (row_verdict f t row) (occurs f t row)

-- one thing for an occurrence, and another for all else
abbrev pub if_occurrence : {A : Type 0} → Result Bool Refusal → A → A → A
if_occurrence (Ok true) a b = a
if_occurrence (Ok false) a b = b
if_occurrence (Err why) a b = b

-- the excerpt (document 01: citation): the words from the row's first place to its last
unfoldable pub excerpt_of : Pattern → List ℕ → List ℕ → List ℕ
excerpt_of f t row = if_occurrence (is_occurrence f t row) (take (at row (f.count - 1) - (at row 0 - 1)) (drop (at row 0 - 1) t)) []

-- how many words stand before them
unfoldable pub excerpt_start : Pattern → List ℕ → List ℕ → ℕ
excerpt_start f t row = if_occurrence (is_occurrence f t row) (at row 0 - 1) 0
