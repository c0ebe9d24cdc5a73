-- Worked texts for excluding slots, as one statement about the meanings. The letters a, b, c and x are the words 1, 2, 3 and 6, a full
-- stop the word 0.
use Rattle.std.specs.Prelude.{ℕ, List, [], ◌∷◌, true}
use Rattle.pattern.specs.declared.slot.Slot.{Slot}
use Rattle.pattern.specs.declared.Pattern.{Pattern}
use Rattle.pattern.specs.Patterns.{slot_of}
use Rattle.matching.specs.Occurrence.{Occurs}
use Rattle.matching.specs.Texts.{one_word, pattern_of, Results}

-- ---- patterns

-- a slot of any word but these
unfoldable pub any_but : List ℕ → ℕ → ℕ → Slot
any_but ws low high = slot_of low high true ws

-- a, then any word but b and c, then a, without gaps: "as .. as"
unfoldable pub pattern-compared : Pattern
pattern-compared = pattern_of (one_word 1 0 0 ∷ any_but (2 ∷ 3 ∷ []) 0 0 ∷ one_word 1 0 0 ∷ []) 1 20000

-- the same with gaps 0 to 1
unfoldable pub pattern-shared : Pattern
pattern-shared = pattern_of (one_word 1 0 0 ∷ any_but (2 ∷ 3 ∷ []) 0 1 ∷ one_word 1 0 1 ∷ []) 1 20000

-- a and any word right after it
unfoldable pub pattern_next : Pattern
pattern_next = pattern_of (one_word 1 0 0 ∷ any_but [] 0 0 ∷ []) 1 20000

-- a and any word after it, gap 0 to 1
unfoldable pub pattern_near : Pattern
pattern_near = pattern_of (one_word 1 0 0 ∷ any_but [] 0 1 ∷ []) 1 20000

-- any word
unfoldable pub pattern-every : Pattern
pattern-every = pattern_of (any_but [] 0 0 ∷ []) 1 20000

-- any three words in a row
unfoldable pub pattern_in_a_row : Pattern
pattern_in_a_row = pattern_of (any_but [] 0 0 ∷ any_but [] 0 0 ∷ any_but [] 0 0 ∷ []) 1 20000

-- a, any word but b, c, without gaps
unfoldable pub pattern_without_b : Pattern
pattern_without_b = pattern_of (one_word 1 0 0 ∷ any_but (2 ∷ []) 0 0 ∷ one_word 3 0 0 ∷ []) 1 20000

-- a, any word but x, c, without gaps
unfoldable pub pattern_without_x : Pattern
pattern_without_x = pattern_of (one_word 1 0 0 ∷ any_but (6 ∷ []) 0 0 ∷ one_word 3 0 0 ∷ []) 1 20000

-- ---- texts

-- axabaxa
unfoldable pub text-compared : List ℕ
text-compared = 1 ∷ 6 ∷ 1 ∷ 2 ∷ 1 ∷ 6 ∷ 1 ∷ []

-- axaba
unfoldable pub text-shared : List ℕ
text-shared = 1 ∷ 6 ∷ 1 ∷ 2 ∷ 1 ∷ []

-- a.xab
unfoldable pub text-beside : List ℕ
text-beside = 1 ∷ 0 ∷ 6 ∷ 1 ∷ 2 ∷ []

-- a.b
unfoldable pub text_past : List ℕ
text_past = 1 ∷ 0 ∷ 2 ∷ []

-- ab.x.
unfoldable pub text-every : List ℕ
text-every = 1 ∷ 2 ∷ 0 ∷ 6 ∷ 0 ∷ []

-- .axb.ab.
unfoldable pub text-sentence : List ℕ
text-sentence = 0 ∷ 1 ∷ 6 ∷ 2 ∷ 0 ∷ 1 ∷ 2 ∷ 0 ∷ []

-- abc
unfoldable pub text-fitting : List ℕ
text-fitting = 1 ∷ 2 ∷ 3 ∷ []

-- ---- what they come to

pub record ExcludingTexts : Type 0 where
  -- an excluded word parts the two
  pub compared : Results pattern-compared text-compared
      ((1 ∷ 2 ∷ 3 ∷ []) ∷ (5 ∷ 6 ∷ 7 ∷ []) ∷ [])
      ((1 ∷ 2 ∷ 3 ∷ []) ∷ (5 ∷ 6 ∷ 7 ∷ []) ∷ [])
      ((1 ∷ 2 ∷ 3 ∷ []) ∷ (5 ∷ 6 ∷ 7 ∷ []) ∷ [])
      2 2
  pub compared_not : Occurs pattern-compared text-compared (3 ∷ 4 ∷ 5 ∷ []) → ⊥
  -- the excluding slot takes the word of its neighbours, too
  pub shared : Results pattern-shared text-shared
      ((1 ∷ 2 ∷ 3 ∷ []) ∷ (1 ∷ 3 ∷ 5 ∷ []) ∷ [])
      ((1 ∷ 2 ∷ 3 ∷ []) ∷ [])
      ((1 ∷ 3 ∷ 5 ∷ []) ∷ [])
      1 2
  pub shared_not : Occurs pattern-shared text-shared (3 ∷ 4 ∷ 5 ∷ []) → ⊥
  -- no word excluded: the full stop beside it is not taken
  pub beside : Results pattern_next text-beside
      ((4 ∷ 5 ∷ []) ∷ [])
      ((4 ∷ 5 ∷ []) ∷ [])
      ((4 ∷ 5 ∷ []) ∷ [])
      1 1
  pub beside_not : Occurs pattern_next text-beside (1 ∷ 2 ∷ []) → ⊥
  -- nor the word past the full stop
  pub past : Results pattern_near text_past [] [] [] 0 0
  pub past_not : Occurs pattern_near text_past (1 ∷ 3 ∷ []) → ⊥
  -- every word of every sentence, and no full stop
  pub every : Results pattern-every text-every
      ((1 ∷ []) ∷ (2 ∷ []) ∷ (4 ∷ []) ∷ [])
      ((1 ∷ []) ∷ (2 ∷ []) ∷ (4 ∷ []) ∷ [])
      ((1 ∷ []) ∷ (2 ∷ []) ∷ (4 ∷ []) ∷ [])
      3 3
  pub every_not : Occurs pattern-every text-every (3 ∷ []) → ⊥
  -- a whole sentence; the other is too short
  pub sentence : Results pattern_in_a_row text-sentence
      ((2 ∷ 3 ∷ 4 ∷ []) ∷ [])
      ((2 ∷ 3 ∷ 4 ∷ []) ∷ [])
      ((2 ∷ 3 ∷ 4 ∷ []) ∷ [])
      1 1
  pub sentence_not : Occurs pattern_in_a_row text-sentence (3 ∷ 4 ∷ 5 ∷ []) → ⊥
  -- the one word that would fit is excluded
  pub without : Results pattern_without_b text-fitting [] [] [] 0 0
  pub without_not : Occurs pattern_without_b text-fitting (1 ∷ 2 ∷ 3 ∷ []) → ⊥
  -- the same where another word is excluded
  pub spared : Results pattern_without_x text-fitting
      ((1 ∷ 2 ∷ 3 ∷ []) ∷ [])
      ((1 ∷ 2 ∷ 3 ∷ []) ∷ [])
      ((1 ∷ 2 ∷ 3 ∷ []) ∷ [])
      1 1
