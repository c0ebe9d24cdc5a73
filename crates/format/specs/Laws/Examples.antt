-- Document 01's examples of the rows 10 to 13, fields of words with `!` and with repeats, and the order of the tests where
-- several rows apply. They compute. Assumes nothing.
use Rattle.std.specs.Prelude.{ℕ, ◌≤◌, ◌<◌, List, [], ◌∷◌, ◌++◌, map, true, false, ◌≡◌, refl, length, replicate, Ok, Err}
use Rattle.std.proofs.Common.{le-ltb, lt-ltb}
use Rattle.pattern.specs.Patterns.{member}
use Rattle.pattern.specs.Words.{rises, canonical, sorted, inserted}
use Rattle.pattern.specs.Tests.{limits_verdict, pattern_verdict, slot_verdict, slots_verdict, span_verdict}
use Rattle.pattern.specs.declared.refusal.Refusal.TheVariants.{FileLength, Gap, Names, SlotCount, Span, TextLength, Values, WordCount, WordListLength, ZeroWord}
use Rattle.format.specs.Bytes.{all_numbers, decimal, ended, lines, more, parts, same, value}
use Rattle.format.specs.Words.{word_parts}
use Rattle.format.specs.Layouts.{scan}
use Rattle.format.specs.Names.{column, high_name, least_name, low_name, most_name, word_name, words_name}
use Rattle.format.specs.Texts.{text_answer, text_contents, text_read, text_written, words}
use Rattle.format.specs.Patterns.{SlotLine, pattern_contents, pattern_answer, pattern_read, shown_pattern, slot_values}
use Rattle.format.specs.Input.{input_read}
use Rattle.basics.specs.Digits.{digits_in}
use Rattle.format.specs.Shown.{closed, digits, joined}

-- ---- files

abbrev line : List (List ℕ) → List ℕ
line fs = joined fs 32

abbrev first : List ℕ
first = line (least_name ∷ most_name ∷ [])

abbrev wide : List ℕ
wide = line (digits 1 ∷ digits 20000 ∷ [])

abbrev names : List ℕ
names = line (low_name ∷ high_name ∷ words_name ∷ [])

-- a slot's line with one word
abbrev slot : ℕ → ℕ → ℕ → List ℕ
slot low high w = line (digits low ∷ digits high ∷ digits w ∷ [])

-- a slot's line with this field of words
abbrev listing : List ℕ → List ℕ
listing ws = line (digits 0 ∷ digits 0 ∷ ws ∷ [])

-- a pattern file with the widest span limits
abbrev file : List (List ℕ) → List ℕ
file ls = closed (first ∷ wide ∷ names ∷ ls)

-- a text file
abbrev text : List (List ℕ) → List ℕ
text ls = closed (word_name ∷ ls)

-- eight words, two of which are the same
eight_words : List ℕ
eight_words = joined (map digits (1 ∷ 2 ∷ 3 ∷ 4 ∷ 5 ∷ 6 ∷ 7 ∷ 7 ∷ [])) 44

-- nine words
nine_words : List ℕ
nine_words = joined (map digits (1 ∷ 2 ∷ 3 ∷ 4 ∷ 5 ∷ 6 ∷ 7 ∷ 8 ∷ 9 ∷ [])) 44

-- a line with them
nine : List ℕ
nine = line (digits 5 ∷ digits 4 ∷ nine_words ∷ [])

-- ---- the rows of the table

-- 10: the names `words low`; no file at all; a name that is not closed; a name that no text has
row_10 : (pattern_read (closed (first ∷ wide ∷ line (words_name ∷ low_name ∷ []) ∷ [])) ≡ Err (Names 3))
    × (pattern_read [] ≡ Err (Names 1))
    × (pattern_read (closed (first ∷ wide ∷ [])) ≡ Err (Names 3))
    × (text_read word_name 9 ≡ Err (Names 1))
    × (text_read (closed (words_name ∷ [])) 9 ≡ Err (Names 1))
unfolding pattern_read pattern_contents text_read text_contents lines ended parts column same decimal more value scan closed joined digits digits_in
row_10 = (refl, refl, refl, refl, refl)

-- 11: the values `0 01 7`; an empty word field; a missing line of values; a line that is not closed; a number that is too large
row_11 : (pattern_read (file (line (digits 0 ∷ (48 ∷ digits 1) ∷ digits 7 ∷ []) ∷ [])) ≡ Err (Values 4))
    × (pattern_read (file (line (digits 0 ∷ digits 0 ∷ [] ∷ []) ∷ [])) ≡ Err (Values 4))
    × (pattern_read (closed (first ∷ [])) ≡ Err (Values 2))
    × (pattern_read (file (slot 0 0 7 ∷ []) ++ slot 0 1 1) ≡ Err (Values 5))
    × (text_read (text (digits 7 ∷ (54 ∷ 53 ∷ 53 ∷ 51 ∷ 54 ∷ []) ∷ [])) 9 ≡ Err (Values 3))
    × (text_read (text (digits 7 ∷ [] ∷ [])) 9 ≡ Err (Values 3))
unfolding pattern_read pattern_contents text_read text_contents lines ended parts column same decimal more value all_numbers slot_values word_parts scan closed joined digits digits_in
row_11 = (refl, refl, refl, refl, refl, refl)

-- 11: `!` and then no list of words (`!!`, `!,1`, `!1,`); `!` anywhere but before the words (`1,!2`, `1!`, before a bound of a gap,
-- before a span limit)
row_11_marks : (pattern_read (file (listing (33 ∷ 33 ∷ []) ∷ [])) ≡ Err (Values 4))
    × (pattern_read (file (listing (33 ∷ 44 ∷ 49 ∷ []) ∷ [])) ≡ Err (Values 4))
    × (pattern_read (file (listing (33 ∷ 49 ∷ 44 ∷ []) ∷ [])) ≡ Err (Values 4))
    × (pattern_read (file (listing (49 ∷ 44 ∷ 33 ∷ 50 ∷ []) ∷ [])) ≡ Err (Values 4))
    × (pattern_read (file (listing (49 ∷ 33 ∷ []) ∷ [])) ≡ Err (Values 4))
    × (pattern_read (file (line ((33 ∷ digits 0) ∷ digits 0 ∷ digits 7 ∷ []) ∷ [])) ≡ Err (Values 4))
    × (pattern_read (closed (first ∷ line ((33 ∷ digits 1) ∷ digits 5 ∷ []) ∷ [])) ≡ Err (Values 2))
unfolding pattern_read pattern_contents lines ended parts column same decimal more value all_numbers slot_values word_parts scan closed joined digits digits_in
row_11_marks = (refl, refl, refl, refl, refl, refl, refl)

-- 2 and 3 where the words are excluded: nine of them; the word 0
row_2_3_marks : (pattern_read (file (listing (33 ∷ nine_words) ∷ [])) ≡ Err (WordCount 1))
    × (pattern_read (file (slot 0 0 7 ∷ listing (33 ∷ digits 0) ∷ [])) ≡ Err (ZeroWord 2))
unfolding nine_words pattern_read pattern_contents lines ended parts column same decimal more value all_numbers slot_values word_parts scan closed joined digits digits_in pattern_verdict limits_verdict slots_verdict slot_verdict span_verdict rises canonical sorted inserted member
row_2_3_marks = (refl, refl)

-- 12: every file of 60,001 bytes, whatever it holds
row_12 : (s : List ℕ) (room : ℕ) → length s ≡ 60001 → (pattern_read s ≡ Err FileLength) × (text_read s room ≡ Err FileLength)
unfolding pattern_read text_read
row_12 s room e = (rw e, rw e)

-- and none of 60,000 bytes
row_12_not : (s : List ℕ) (room : ℕ) → length s ≡ 60000 → (pattern_read s ≡ pattern_answer (pattern_contents s)) × (text_read s room ≡ text_answer (text_contents s) room)
unfolding pattern_read text_read
row_12_not s room e = (rw e, rw e)

-- 13: a list of 1 for 2 words
row_13 : (text_read (text (digits 7 ∷ digits 7 ∷ [])) 1 ≡ Err WordListLength)
    × (text_written (text (digits 7 ∷ digits 7 ∷ [])) (3 ∷ []) ≡ 3 ∷ [])
unfolding text_read text_written text_contents lines ended same decimal more scan closed digits digits_in
row_13 = (refl, refl)

-- ---- what is read

-- what the line of a plain first slot says
abbrev plain : List ℕ → SlotLine
plain ws = record { low = 0; high = 0; excluding = false; words = ws }

-- a text over the start of a list; the name alone and no bytes are an empty text
texts_read : (text_read (text (digits 7 ∷ digits 0 ∷ [])) 3 ≡ Ok 2)
    × (text_written (text (digits 7 ∷ digits 0 ∷ [])) (1 ∷ 2 ∷ 3 ∷ []) ≡ 7 ∷ 0 ∷ 3 ∷ [])
    × (text_read (text []) 0 ≡ Ok 0)
    × (text_read [] 0 ≡ Ok 0)
unfolding text_read text_written text_contents lines ended same decimal more scan closed digits digits_in
texts_read = (refl, refl, refl, refl)

-- names in another order: the values follow
other_order : pattern_read (closed (line (most_name ∷ least_name ∷ []) ∷ line (digits 9 ∷ digits 3 ∷ []) ∷ line (words_name ∷ low_name ∷ high_name ∷ []) ∷ line (digits 7 ∷ digits 0 ∷ digits 0 ∷ []) ∷ []))
    ≡ Ok (shown_pattern 3 9 (record { low = 0; high = 0; excluding = false; words = 7 ∷ [] } ∷ []))
unfolding pattern_read pattern_contents lines ended parts column same decimal more value all_numbers slot_values word_parts scan closed joined digits digits_in pattern_verdict limits_verdict slots_verdict slot_verdict span_verdict rises canonical sorted inserted member
other_order = refl

-- `7`, `!12,15` and `!`: a plain slot, an excluding slot, and one that excludes no word
marks_read : pattern_read (file (listing (digits 7) ∷ listing (33 ∷ joined (digits 12 ∷ digits 15 ∷ []) 44) ∷ listing (33 ∷ []) ∷ []))
    ≡ Ok (shown_pattern 1 20000 (record { low = 0; high = 0; excluding = false; words = 7 ∷ [] }
    ∷ record { low = 0; high = 0; excluding = true; words = 12 ∷ 15 ∷ [] }
    ∷ record { low = 0; high = 0; excluding = true; words = [] } ∷ []))
unfolding pattern_read pattern_contents lines ended parts column same decimal more value all_numbers slot_values word_parts scan closed joined digits digits_in pattern_verdict limits_verdict slots_verdict slot_verdict span_verdict rises canonical sorted inserted member
marks_read = refl

-- `15,12,15` is read as the words 12 and 15; eight words, two of them the same, are read as seven; nine with repeats are 2
repeats_read : (pattern_read (file (listing (joined (digits 15 ∷ digits 12 ∷ digits 15 ∷ []) 44) ∷ [])) ≡ Ok (shown_pattern 1 20000 (plain (12 ∷ 15 ∷ []) ∷ [])))
    × (pattern_read (file (listing eight_words ∷ [])) ≡ Ok (shown_pattern 1 20000 (plain (1 ∷ 2 ∷ 3 ∷ 4 ∷ 5 ∷ 6 ∷ 7 ∷ []) ∷ [])))
    × (pattern_read (file (listing (eight_words ++ 44 ∷ digits 1) ∷ [])) ≡ Err (WordCount 1))
unfolding eight_words pattern_read pattern_contents lines ended parts column same decimal more value all_numbers slot_values word_parts scan closed joined digits digits_in pattern_verdict limits_verdict slots_verdict slot_verdict span_verdict rises canonical sorted inserted member
repeats_read = (refl, refl, refl)

-- ---- the order of the tests

-- 11 on a later line comes before 1 to 5; then 1; 2, 3 and 4 slot by slot, 2 before 4; then 5
pattern_order : (pattern_read (closed (first ∷ line (digits 0 ∷ digits 5 ∷ []) ∷ names ∷ nine ∷ slot 0 1 0 ∷ slot 3 2 7 ∷ (55 ∷ []) ∷ [])) ≡ Err (Values 7))
    × (pattern_read (closed (first ∷ line (digits 0 ∷ digits 5 ∷ []) ∷ names ∷ [])) ≡ Err SlotCount)
    × (pattern_read (file (replicate 17 (slot 3 2 0))) ≡ Err SlotCount)
    × (pattern_read (closed (first ∷ line (digits 0 ∷ digits 5 ∷ []) ∷ names ∷ nine ∷ slot 3 2 0 ∷ [])) ≡ Err (WordCount 1))
    × (pattern_read (file (slot 0 0 7 ∷ slot 3 2 0 ∷ nine ∷ [])) ≡ Err (ZeroWord 2))
    × (pattern_read (file (slot 0 0 7 ∷ slot 3 2 7 ∷ nine ∷ [])) ≡ Err (Gap 2))
    × (pattern_read (closed (first ∷ line (digits 0 ∷ digits 5 ∷ []) ∷ names ∷ slot 0 0 7 ∷ [])) ≡ Err Span)
unfolding nine nine_words pattern_read pattern_contents lines ended parts column same decimal more value all_numbers slot_values word_parts scan closed joined digits digits_in pattern_verdict limits_verdict slots_verdict slot_verdict span_verdict rises canonical sorted inserted member
pattern_order = (refl, refl, refl, refl, refl, refl, refl)

-- 11 before 6, and 6 before 13, of a text whose layout is good
text_order : (s : List ℕ) (ws : List ℕ) → length s ≤ 60000 → text_contents s ≡ words ws → 20000 < length ws → text_read s 0 ≡ Err TextLength
unfolding text_read
text_order s ws h c k = rw (le-ltb 60000 (length s) h, c) (rw (lt-ltb 20000 (length ws) k))

-- both files: 12 on either before the pattern's layout; the whole pattern file before the text's layout
both_long : (s : List ℕ) → length s ≡ 60001 → input_read [] s 0 ≡ Err FileLength
unfolding input_read
both_long s e = rw e

both_order : (input_read (closed (first ∷ line (digits 0 ∷ digits 5 ∷ []) ∷ names ∷ slot 0 0 7 ∷ [])) word_name 0 ≡ Err Span)
    × (input_read (file (slot 0 0 7 ∷ [])) word_name 0 ≡ Err (Names 1))
    × (input_read (file (slot 0 0 7 ∷ [])) (text (digits 7 ∷ [])) 0 ≡ Err WordListLength)
unfolding input_read text_read text_contents pattern_read pattern_contents lines ended parts column same decimal more value all_numbers slot_values word_parts scan closed joined digits digits_in pattern_verdict limits_verdict slots_verdict slot_verdict span_verdict rises canonical sorted inserted member
both_order = (refl, refl, refl)
