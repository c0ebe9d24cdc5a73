-- A text file (document 01: text sheet): the words it holds, or why it is refused.
use Rattle.std.specs.Prelude.{ℕ, ◌+◌, List, [], ◌∷◌, map, Bool, length, ltb, Err, Ok, Result}
use Rattle.basics.specs.Choice.{pick}
use Rattle.basics.specs.Written.{over}
use Rattle.pattern.specs.declared.refusal.Refusal.{Refusal}
use Rattle.pattern.specs.declared.refusal.Refusal.TheVariants.{TextLength, Names, Values, FileLength, WordListLength}
use Rattle.format.specs.Bytes.{lines, ended, decimal, is_number, same}
use Rattle.format.specs.Layouts.{Layout, scan}
use Rattle.format.specs.Names.{word_name}

-- ---- layout (10, 11)

-- what stands on a file's lines: the words, or why the layout is refused
pub data TextContents : Type 0 where
  refused : Refusal → TextContents
  words : List ℕ → TextContents

-- from the words' lines ls on, whose layout was looked at: the first of them is line 2
abbrev pub after_name : Layout → List (List ℕ) → TextContents
after_name (Err n) ls = refused (Values (n + 2))
after_name (Ok n) ls = words (map decimal ls)

-- from the first line on; the last line is closed or not
abbrev pub of_lines : List (List ℕ) → Bool → TextContents
of_lines [] closed = refused (Names 1)
of_lines (l ∷ ls) closed = pick (same l word_name) (after_name (scan ls is_number closed 0) ls) (refused (Names 1))

-- a file of no bytes is an empty text
unfoldable pub text_contents : List ℕ → TextContents
text_contents [] = words []
text_contents (b ∷ s) = of_lines (lines (b ∷ s)) (ended (b ∷ s) 10)

-- the words; none where the layout is refused
abbrev pub shown_words : TextContents → List ℕ
shown_words (words ws) = ws
shown_words (refused why) = []

-- ---- the answer, with room for so many words: 12, layout, 6, 13

-- the answer for what stands on the lines
abbrev pub text_answer : TextContents → ℕ → Result ℕ Refusal
text_answer (refused why) room = Err why
text_answer (words ws) room =
    pick (ltb 20000 (length ws)) (Err TextLength)
    (pick (ltb room (length ws)) (Err WordListLength)
    (Ok (length ws)))

-- the answer for a file's bytes
unfoldable pub text_read : List ℕ → ℕ → Result ℕ Refusal
text_read s room = pick (ltb 60000 (length s)) (Err FileLength) (text_answer (text_contents s) room)

-- ---- the caller's list at the end: as it was, or with the words at its start

-- the list, by what stands on the lines
abbrev pub contents_written : TextContents → List ℕ → List ℕ
contents_written (refused why) out = out
contents_written (words ws) out = pick (ltb 20000 (length ws)) out (pick (ltb (length out) (length ws)) out (over out ws))

-- the list, by a file's bytes
unfoldable pub text_written : List ℕ → List ℕ → List ℕ
text_written s out = pick (ltb 60000 (length s)) out (contents_written (text_contents s) out)
