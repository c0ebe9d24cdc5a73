-- Worked texts with sentence ends, as one statement about the meanings. The letters a, b, c and x are the words 1, 2, 3 and 6, a full
-- stop the word 0.
use Rattle.std.specs.Prelude.{ℕ, List, [], ◌∷◌}
use Rattle.pattern.specs.declared.Pattern.{Pattern}
use Rattle.matching.specs.Occurrence.{Occurs}
use Rattle.matching.specs.Texts.{one_word, pattern_of, Results}

-- ---- patterns

-- a[0,3]b, as "neither .. nor"
unfoldable pub pattern_pair : Pattern
pattern_pair = pattern_of (one_word 1 0 0 ∷ one_word 2 0 3 ∷ []) 1 20000

-- a[0,2]b[0,2]c
unfoldable pub pattern_triple : Pattern
pattern_triple = pattern_of (one_word 1 0 0 ∷ one_word 2 0 2 ∷ one_word 3 0 2 ∷ []) 1 20000

-- a[0,1]b[0,1]c, spans 4 to 4
unfoldable pub pattern-spanned : Pattern
pattern-spanned = pattern_of (one_word 1 0 0 ∷ one_word 2 0 1 ∷ one_word 3 0 1 ∷ []) 4 4

-- a[0,1]b[0,1]c[0,1]a
unfoldable pub pattern-inner : Pattern
pattern-inner = pattern_of (one_word 1 0 0 ∷ one_word 2 0 1 ∷ one_word 3 0 1 ∷ one_word 1 0 1 ∷ []) 1 20000

-- a
unfoldable pub pattern_single : Pattern
pattern_single = pattern_of (one_word 1 0 0 ∷ []) 1 20000

-- ---- texts

-- xa.bx
unfoldable pub text-parted : List ℕ
text-parted = 6 ∷ 1 ∷ 0 ∷ 2 ∷ 6 ∷ []

-- xabx
unfoldable pub text_whole : List ℕ
text_whole = 6 ∷ 1 ∷ 2 ∷ 6 ∷ []

-- a.xb
unfoldable pub text-after_first : List ℕ
text-after_first = 1 ∷ 0 ∷ 6 ∷ 2 ∷ []

-- ax.b
unfoldable pub text_before_last : List ℕ
text_before_last = 1 ∷ 6 ∷ 0 ∷ 2 ∷ []

-- a.x.b
unfoldable pub text_two_stops : List ℕ
text_two_stops = 1 ∷ 0 ∷ 6 ∷ 0 ∷ 2 ∷ []

-- a..ab
unfoldable pub text_empty_sentence : List ℕ
text_empty_sentence = 1 ∷ 0 ∷ 0 ∷ 1 ∷ 2 ∷ []

-- .axb.
unfoldable pub text_outside : List ℕ
text_outside = 0 ∷ 1 ∷ 6 ∷ 2 ∷ 0 ∷ []

-- a.ab
unfoldable pub text_later : List ℕ
text_later = 1 ∷ 0 ∷ 1 ∷ 2 ∷ []

-- axab
unfoldable pub text_later_open : List ℕ
text_later_open = 1 ∷ 6 ∷ 1 ∷ 2 ∷ []

-- aabbc.c.abc
unfoldable pub text_several : List ℕ
text_several = 1 ∷ 1 ∷ 2 ∷ 2 ∷ 3 ∷ 0 ∷ 3 ∷ 0 ∷ 1 ∷ 2 ∷ 3 ∷ []

-- aabbcxcxabc
unfoldable pub text_several_open : List ℕ
text_several_open = 1 ∷ 1 ∷ 2 ∷ 2 ∷ 3 ∷ 6 ∷ 3 ∷ 6 ∷ 1 ∷ 2 ∷ 3 ∷ []

-- axbc.abxcab.c
unfoldable pub text-spanned : List ℕ
text-spanned = 1 ∷ 6 ∷ 2 ∷ 3 ∷ 0 ∷ 1 ∷ 2 ∷ 6 ∷ 3 ∷ 1 ∷ 2 ∷ 0 ∷ 3 ∷ []

-- ab.cabca
unfoldable pub text-inner : List ℕ
text-inner = 1 ∷ 2 ∷ 0 ∷ 3 ∷ 1 ∷ 2 ∷ 3 ∷ 1 ∷ []

-- .a.aa.
unfoldable pub text_single : List ℕ
text_single = 0 ∷ 1 ∷ 0 ∷ 1 ∷ 1 ∷ 0 ∷ []

-- ---- what they come to

pub record SentenceTexts : Type 0 where
  -- "neither" ends a sentence, and "nor" begins the next
  pub parted : Results pattern_pair text-parted [] [] [] 0 0
  pub parted_not : Occurs pattern_pair text-parted (2 ∷ 4 ∷ []) → ⊥
  -- the same without the full stop
  pub whole : Results pattern_pair text_whole
      ((2 ∷ 3 ∷ []) ∷ [])
      ((2 ∷ 3 ∷ []) ∷ [])
      ((2 ∷ 3 ∷ []) ∷ [])
      1 1
  -- a full stop right after the first place
  pub after_first : Results pattern_pair text-after_first [] [] [] 0 0
  pub after_first_not : Occurs pattern_pair text-after_first (1 ∷ 4 ∷ []) → ⊥
  -- right before the last
  pub before_last : Results pattern_pair text_before_last [] [] [] 0 0
  pub before_last_not : Occurs pattern_pair text_before_last (1 ∷ 4 ∷ []) → ⊥
  -- two of them inside a row
  pub two_stops : Results pattern_pair text_two_stops [] [] [] 0 0
  pub two_stops_not : Occurs pattern_pair text_two_stops (1 ∷ 5 ∷ []) → ⊥
  -- one right after the other, an empty sentence between them
  pub empty_sentence : Results pattern_pair text_empty_sentence
      ((4 ∷ 5 ∷ []) ∷ [])
      ((4 ∷ 5 ∷ []) ∷ [])
      ((4 ∷ 5 ∷ []) ∷ [])
      1 1
  pub empty_sentence_not : Occurs pattern_pair text_empty_sentence (1 ∷ 5 ∷ []) → ⊥
  -- just before the first place and just after the last
  pub outside : Results pattern_pair text_outside
      ((2 ∷ 4 ∷ []) ∷ [])
      ((2 ∷ 4 ∷ []) ∷ [])
      ((2 ∷ 4 ∷ []) ∷ [])
      1 1
  -- both lists have the row of the second sentence
  pub later : Results pattern_pair text_later
      ((3 ∷ 4 ∷ []) ∷ [])
      ((3 ∷ 4 ∷ []) ∷ [])
      ((3 ∷ 4 ∷ []) ∷ [])
      1 1
  pub later_not : Occurs pattern_pair text_later (1 ∷ 4 ∷ []) → ⊥
  -- with a word for the full stop the front list has another row
  pub later_open : Results pattern_pair text_later_open
      ((1 ∷ 4 ∷ []) ∷ (3 ∷ 4 ∷ []) ∷ [])
      ((1 ∷ 4 ∷ []) ∷ [])
      ((3 ∷ 4 ∷ []) ∷ [])
      1 2
  -- occurrences in the first and the third of three sentences
  pub several : Results pattern_triple text_several
      ((1 ∷ 3 ∷ 5 ∷ []) ∷ (1 ∷ 4 ∷ 5 ∷ []) ∷ (2 ∷ 3 ∷ 5 ∷ []) ∷ (2 ∷ 4 ∷ 5 ∷ []) ∷ (9 ∷ 10 ∷ 11 ∷ []) ∷ [])
      ((1 ∷ 3 ∷ 5 ∷ []) ∷ (9 ∷ 10 ∷ 11 ∷ []) ∷ [])
      ((2 ∷ 4 ∷ 5 ∷ []) ∷ (9 ∷ 10 ∷ 11 ∷ []) ∷ [])
      2 5
  pub several_not : Occurs pattern_triple text_several (2 ∷ 4 ∷ 7 ∷ []) → ⊥
  -- with words for the full stops both lists have a row more
  pub several_open : Results pattern_triple text_several_open
      ((1 ∷ 3 ∷ 5 ∷ []) ∷ (1 ∷ 4 ∷ 5 ∷ []) ∷ (1 ∷ 4 ∷ 7 ∷ []) ∷ (2 ∷ 3 ∷ 5 ∷ []) ∷ (2 ∷ 4 ∷ 5 ∷ []) ∷ (2 ∷ 4 ∷ 7 ∷ []) ∷ (9 ∷ 10 ∷ 11 ∷ []) ∷ [])
      ((1 ∷ 3 ∷ 5 ∷ []) ∷ (2 ∷ 4 ∷ 7 ∷ []) ∷ (9 ∷ 10 ∷ 11 ∷ []) ∷ [])
      ((1 ∷ 3 ∷ 5 ∷ []) ∷ (2 ∷ 4 ∷ 7 ∷ []) ∷ (9 ∷ 10 ∷ 11 ∷ []) ∷ [])
      3 7
  -- spans that bind
  pub spanned : Results pattern-spanned text-spanned
      ((1 ∷ 3 ∷ 4 ∷ []) ∷ (6 ∷ 7 ∷ 9 ∷ []) ∷ [])
      ((1 ∷ 3 ∷ 4 ∷ []) ∷ (6 ∷ 7 ∷ 9 ∷ []) ∷ [])
      ((1 ∷ 3 ∷ 4 ∷ []) ∷ (6 ∷ 7 ∷ 9 ∷ []) ∷ [])
      2 2
  -- the span is right, the sentence is broken
  pub spanned_not : Occurs pattern-spanned text-spanned (10 ∷ 11 ∷ 13 ∷ []) → ⊥
  -- a full stop between the places of two inner slots
  pub inner : Results pattern-inner text-inner
      ((5 ∷ 6 ∷ 7 ∷ 8 ∷ []) ∷ [])
      ((5 ∷ 6 ∷ 7 ∷ 8 ∷ []) ∷ [])
      ((5 ∷ 6 ∷ 7 ∷ 8 ∷ []) ∷ [])
      1 1
  pub inner_not : Occurs pattern-inner text-inner (1 ∷ 2 ∷ 4 ∷ 5 ∷ []) → ⊥
  -- a row of one place breaks no sentence
  pub single : Results pattern_single text_single
      ((2 ∷ []) ∷ (4 ∷ []) ∷ (5 ∷ []) ∷ [])
      ((2 ∷ []) ∷ (4 ∷ []) ∷ (5 ∷ []) ∷ [])
      ((2 ∷ []) ∷ (4 ∷ []) ∷ (5 ∷ []) ∷ [])
      3 3
