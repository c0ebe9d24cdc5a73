-- An answer as C reads it: the refusal's number and place, 0 and 0 where nothing is refused, and the answer's own numbers.
use Rattle.std.specs.Prelude.{ℕ, ◌≡◌, Bool, true, false, List, length, get_or, replicate, Option, Some, None, Result, Ok, Err}
use Rattle.pattern.specs.declared.Pattern.{Pattern}
use Rattle.pattern.specs.declared.refusal.Refusal.{Refusal}
use Rattle.pattern.specs.Patterns.{empty_pattern}
use Rattle.pattern.specs.Refusals.{number_of, place_of}
use Rattle.pattern.specs.Tests.{Verdict}
use Rattle.classes.specs.Recoding.{Recodes}
use Rattle.counting.specs.Halves.{high, low}
use Rattle.format.specs.declared.input.Input.{Input}
use Rattle.format.specs.declared.reader.Line.{Line}
use Rattle.cursors.specs.declared.Cursors.{Cursors}
use Rattle.cursors.specs.Machine.{Served, Rewound}
use Rattle.bindings.specs.declared.answers.Answer.{Answer}
use Rattle.bindings.specs.declared.answers.Total.{Total}
use Rattle.bindings.specs.declared.answers.Made.{Made}
use Rattle.bindings.specs.declared.answers.ReadBoth.{ReadBoth}
use Rattle.bindings.specs.declared.answers.LineEnds.{LineEnds}
use Rattle.bindings.specs.declared.answers.Found.{Found}
use Rattle.bindings.specs.declared.answers.Excerpted.{Excerpted}
use Rattle.bindings.specs.declared.answers.ServedTo.{ServedTo}

-- ---- one number

-- why nothing is answered
abbrev pub refused : Refusal → Answer
refused why = record { number = number_of why; place = place_of why; value = 0 }

-- a number that is answered
abbrev pub value : ℕ → Answer
value n = record { number = 0; place = 0; value = n }

-- a verdict: 0 where it accepts
abbrev pub of_verdict : Verdict → Answer
of_verdict (Ok tt) = value 0
of_verdict (Err why) = refused why

-- how many: rows of a list call, words of the column or of a text that was recoded or read, bytes of a pattern that was written
abbrev pub of_number : Result ℕ Refusal → Answer
of_number (Ok n) = value n
of_number (Err why) = refused why

-- 1 for yes, 0 for no
abbrev pub of_tested : Result Bool Refusal → Answer
of_tested (Ok true) = value 1
of_tested (Ok false) = value 0
of_tested (Err why) = refused why

-- ---- one number in two halves

-- the tally
abbrev pub of_total : Result ℕ Refusal → Total
of_total (Ok n) = record { number = 0; place = 0; high = high n; low = low n }
of_total (Err why) = record { number = number_of why; place = place_of why; high = 0; low = 0 }

-- ---- with what else a call gives

-- the pattern that a call makes or, where it refuses, another beside the refusal: the pattern as it was where a slot is added, a new one where
-- two are merged or a file is read
abbrev pub pattern_or : Pattern → Result Pattern Refusal → Made
pattern_or other (Ok f) = record { number = 0; place = 0; pattern = f }
pattern_or other (Err why) = record { number = number_of why; place = place_of why; pattern = other }

-- both files that were read or, where one is refused, no words and a new pattern
abbrev pub of_input : Result Input Refusal → ReadBoth
of_input (Ok i) = record { number = 0; place = 0; words = i.words; pattern = i.pattern }
of_input (Err why) = record { number = number_of why; place = place_of why; words = 0; pattern = empty_pattern }

-- a line of a file
abbrev pub of_line : Line → LineEnds
of_line l = record { end = l.end; next = l.next }

-- a search: 1 for found, and the sixteen places; else 0, and places of 0
abbrev pub of_search : Result (Option (List ℕ)) Refusal → Found
of_search (Ok (Some places)) = record { number = 0; place = 0; found = 1; places = places }
of_search (Ok None) = record { number = 0; place = 0; found = 0; places = replicate 16 0 }
of_search (Err why) = record { number = number_of why; place = place_of why; found = 0; places = replicate 16 0 }

-- the words, and the one at the index, or 0 past their end
abbrev pub of_excerpt : List ℕ → ℕ → Excerpted
of_excerpt ws i = record { length = length ws; word = get_or ws i 0 }

-- the clients' state with what a call found
abbrev pub with_cursors : Cursors → Found → ServedTo
with_cursors after f = record { cursors = after; number = f.number; place = f.place; found = f.found; places = f.places }

-- what a client was served (document 01: handed out)
abbrev pub of_served : Served → ServedTo
of_served r = with_cursors r.cursors (of_search r.answer)

-- what rewinding finds: nothing
abbrev pub nothing : Verdict → Result (Option (List ℕ)) Refusal
nothing (Ok tt) = Ok None
nothing (Err why) = Err why

abbrev pub of_rewound : Rewound → ServedTo
of_rewound r = with_cursors r.cursors (of_search (nothing r.verdict))

-- ---- a promise that is no equation

-- the numbers of an answer that recoding gives (Recodes of `classes` leaves just one)
pub record RecodesAs (text classes expression : List ℕ) (code : ℕ) (out : List ℕ) (r : Answer) (after : List ℕ) : Type 0 where
  pub recoded : Result ℕ Refusal
  pub recodes : Recodes text classes expression code out recoded after
  pub told : r ≡ of_number recoded
