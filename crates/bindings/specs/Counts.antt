-- The count for two files (document 01, "The program, and the C window").
use Rattle.std.specs.Prelude.{ℕ, ◌+◌, List, length, Result, Ok, Err}
use Rattle.pattern.specs.declared.refusal.Refusal.{Refusal}
use Rattle.pattern.specs.Refusals.{number_of}
use Rattle.matching.specs.Lists.{leftmost}
use Rattle.format.specs.Texts.{shown_words, text_contents}
use Rattle.format.specs.Input.{input_read}
use Rattle.format.specs.declared.input.Input.{Input}

-- the count of the pattern that was read, in the words
abbrev pub counted_by : Result Input Refusal → List ℕ → Result ℕ Refusal
counted_by (Ok i) words = Ok (length (leftmost i.pattern words))
counted_by (Err why) words = Err why

-- the files are read with room for every text within the limit
unfoldable pub count_in : List ℕ → List ℕ → Result ℕ Refusal
count_in p t = counted_by (input_read p t 20000) (shown_words (text_contents t))

-- the count where there is one, else 100,000 plus the refusal's number
abbrev pub count_or : Result ℕ Refusal → ℕ
count_or (Ok count) = count
count_or (Err why) = 100000 + number_of why

-- as one number
abbrev pub count_of : List ℕ → List ℕ → ℕ
count_of p t = count_or (count_in p t)
