-- What is printed for an input, by the tests in document 01's order: 12, those of the two files, 8, 9.
use Rattle.std.specs.Prelude.{ℕ, List, length, ltb, Result, Ok, Err}
use Rattle.basics.specs.Choice.{pick}
use Rattle.pattern.specs.declared.Pattern.{Pattern}
use Rattle.pattern.specs.declared.refusal.Refusal.{Refusal}
use Rattle.pattern.specs.declared.refusal.Refusal.TheVariants.{FileLength}
use Rattle.matching.specs.Answers.{front_listed}
use Rattle.matching.specs.Lists.{leftmost, rightmost}
use Rattle.counting.specs.Answers.{tallied}
use Rattle.counting.specs.Halves.{high, low}
use Rattle.format.specs.Input.{input_read}
use Rattle.format.specs.Texts.{shown_words, text_contents}
use Rattle.format.specs.declared.input.Input.{Input}
use Rattle.report.specs.Files.{pattern_file, text_file}
use Rattle.report.specs.Lines.{refusal_report, lists_report}

-- ---- a pattern and a text

-- by what the tally answers
abbrev pub after_tally : Result ℕ Refusal → Pattern → List ℕ → List ℕ
after_tally (Ok n) f t = lists_report f.count (leftmost f t) (rightmost f t) (high n) (low n)
after_tally (Err why) f t = refusal_report why

-- by what the front list answers: the back list has as many rows
abbrev pub after_lists : Result ℕ Refusal → Pattern → List ℕ → List ℕ
after_lists (Ok rows) f t = after_tally (tallied f t) f t
after_lists (Err why) f t = refusal_report why

-- a pattern in a text, with two lists of 16,000 places
unfoldable pub search_report : Pattern → List ℕ → List ℕ
search_report f t = after_lists (front_listed f t 16000) f t

-- ---- an input

-- by what the reader answers
abbrev pub after_text : Result Input Refusal → List ℕ → List ℕ
after_text (Ok input) t = search_report input.pattern t
after_text (Err why) t = refusal_report why

-- a pattern file and a text file, with room for 20,000 words
unfoldable pub files_report : List ℕ → List ℕ → List ℕ
files_report p t = after_text (input_read p t 20000) (shown_words (text_contents t))

-- an input of at most 60,000 bytes
unfoldable pub reported : List ℕ → List ℕ
reported input = pick (ltb 60000 (length input)) (refusal_report FileLength) (files_report (pattern_file input) (text_file input))
