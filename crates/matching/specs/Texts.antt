-- The nine texts of document 01, as one statement about the meanings. The letters a, b, c, g, t and x are the words 1 to 6.
use Rattle.std.specs.Prelude.{ℕ, ◌-◌, ◌≡◌, List, [], ◌∷◌, ◌++◌, false, length, replicate}
use Rattle.std.proofs.Math.Option.{none}
use Rattle.pattern.specs.declared.slot.Slot.{Slot}
use Rattle.pattern.specs.declared.Pattern.{Pattern}
use Rattle.pattern.specs.Patterns.{empty_slot, slot_of}
use Rattle.pattern.specs.Accepted.{Accepted, AcceptedInput}
use Rattle.matching.specs.Occurrence.{Occurs}
use Rattle.matching.specs.Occurrences.{occurrences}
use Rattle.matching.specs.Searches.{earliest, latest}
use Rattle.matching.specs.Lists.{leftmost, rightmost}

-- a slot of one word
unfoldable pub one_word : ℕ → ℕ → ℕ → Slot
one_word w low high = slot_of low high false (w ∷ [])

-- the pattern of these slots
unfoldable pub pattern_of : List Slot → ℕ → ℕ → Pattern
pattern_of slots least most = record { slots = slots ++ replicate (16 - length slots) empty_slot; count = length slots; least = least; most = most }

-- aggcaaga
unfoldable pub text_one : List ℕ
text_one = 1 ∷ 4 ∷ 4 ∷ 3 ∷ 1 ∷ 1 ∷ 4 ∷ 1 ∷ []

-- a[0,1]g[0,1]a
unfoldable pub pattern_one : Pattern
pattern_one = pattern_of (one_word 1 0 0 ∷ one_word 4 0 1 ∷ one_word 1 0 1 ∷ []) 1 20000

-- aggcaaga, a[0,1]g[0,1]a, spans 4 to 5
unfoldable pub pattern_two : Pattern
pattern_two = pattern_of (one_word 1 0 0 ∷ one_word 4 0 1 ∷ one_word 1 0 1 ∷ []) 4 5

-- aattatatt
unfoldable pub text_three : List ℕ
text_three = 1 ∷ 1 ∷ 5 ∷ 5 ∷ 1 ∷ 5 ∷ 1 ∷ 5 ∷ 5 ∷ []

-- a[0,1]t[0,1]a, spans 3 to 4
unfoldable pub pattern_three : Pattern
pattern_three = pattern_of (one_word 1 0 0 ∷ one_word 5 0 1 ∷ one_word 1 0 1 ∷ []) 3 4

-- actataagg
unfoldable pub text_four : List ℕ
text_four = 1 ∷ 3 ∷ 5 ∷ 1 ∷ 5 ∷ 1 ∷ 1 ∷ 4 ∷ 4 ∷ []

-- a[0,1]t[0,1]a[1,3]g
unfoldable pub pattern_four : Pattern
pattern_four = pattern_of (one_word 1 0 0 ∷ one_word 5 0 1 ∷ one_word 1 0 1 ∷ one_word 4 1 3 ∷ []) 1 20000

-- atatgtagatgattga
unfoldable pub text_five : List ℕ
text_five = 1 ∷ 5 ∷ 1 ∷ 5 ∷ 4 ∷ 5 ∷ 1 ∷ 4 ∷ 1 ∷ 5 ∷ 4 ∷ 1 ∷ 5 ∷ 5 ∷ 4 ∷ 1 ∷ []

-- a[0,2]t[0,2]g[0,1]a
unfoldable pub pattern_five : Pattern
pattern_five = pattern_of (one_word 1 0 0 ∷ one_word 5 0 2 ∷ one_word 4 0 2 ∷ one_word 1 0 1 ∷ []) 1 20000

-- acctctgtt
unfoldable pub text_six : List ℕ
text_six = 1 ∷ 3 ∷ 3 ∷ 5 ∷ 3 ∷ 5 ∷ 4 ∷ 5 ∷ 5 ∷ []

-- a[0,3]c[1,3]t
unfoldable pub pattern_six : Pattern
pattern_six = pattern_of (one_word 1 0 0 ∷ one_word 3 0 3 ∷ one_word 5 1 3 ∷ []) 1 20000

-- aabxc
unfoldable pub text_seven : List ℕ
text_seven = 1 ∷ 1 ∷ 2 ∷ 6 ∷ 3 ∷ []

-- a[0,2]b[0,1]c, spans 1 to 4
unfoldable pub pattern_seven : Pattern
pattern_seven = pattern_of (one_word 1 0 0 ∷ one_word 2 0 2 ∷ one_word 3 0 1 ∷ []) 1 4

-- abcc
unfoldable pub text_eight : List ℕ
text_eight = 1 ∷ 2 ∷ 3 ∷ 3 ∷ []

-- a[0,2]b[0,2]c, spans 4 to 4
unfoldable pub pattern_eight : Pattern
pattern_eight = pattern_of (one_word 1 0 0 ∷ one_word 2 0 2 ∷ one_word 3 0 2 ∷ []) 4 4

-- pattern and text are accepted; all occurrences, the front list, the back list, the count and the tally
pub record Results (f : Pattern) (t : List ℕ) (hits front back : List (List ℕ)) (count tally : ℕ) : Type 0 where
  pub accepted : AcceptedInput f (length t)
  pub all_hits : occurrences f t ≡ hits
  pub front-list : leftmost f t ≡ front
  pub back_list : rightmost f t ≡ back
  pub counted : length (leftmost f t) ≡ count
  pub tallied : length (occurrences f t) ≡ tally

-- what an empty text comes to
pub record Nothing (f : Pattern) : Type 0 where
  pub forward : (marks : List ℕ) → earliest f [] marks ≡ none
  pub backward : (marks : List ℕ) → latest f [] marks ≡ none
  pub results : Results f [] [] [] [] 0 0

-- what document 01 says of its nine texts
pub record NineTexts : Type 0 where
  pub one : Results pattern_one text_one
      ((1 ∷ 3 ∷ 5 ∷ []) ∷ (5 ∷ 7 ∷ 8 ∷ []) ∷ (6 ∷ 7 ∷ 8 ∷ []) ∷ [])
      ((1 ∷ 3 ∷ 5 ∷ []) ∷ (5 ∷ 7 ∷ 8 ∷ []) ∷ [])
      ((1 ∷ 3 ∷ 5 ∷ []) ∷ (6 ∷ 7 ∷ 8 ∷ []) ∷ [])
      2 3
  pub two : Results pattern_two text_one
      ((1 ∷ 3 ∷ 5 ∷ []) ∷ (5 ∷ 7 ∷ 8 ∷ []) ∷ [])
      ((1 ∷ 3 ∷ 5 ∷ []) ∷ (5 ∷ 7 ∷ 8 ∷ []) ∷ [])
      ((1 ∷ 3 ∷ 5 ∷ []) ∷ (5 ∷ 7 ∷ 8 ∷ []) ∷ [])
      2 2
  -- too short
  pub two_not : Occurs pattern_two text_one (6 ∷ 7 ∷ 8 ∷ []) → ⊥
  pub three : Results pattern_three text_three
      ((2 ∷ 3 ∷ 5 ∷ []) ∷ (2 ∷ 4 ∷ 5 ∷ []) ∷ (5 ∷ 6 ∷ 7 ∷ []) ∷ [])
      ((2 ∷ 3 ∷ 5 ∷ []) ∷ (5 ∷ 6 ∷ 7 ∷ []) ∷ [])
      ((2 ∷ 4 ∷ 5 ∷ []) ∷ (5 ∷ 6 ∷ 7 ∷ []) ∷ [])
      2 3
  pub four : Results pattern_four text_four
      ((1 ∷ 3 ∷ 4 ∷ 8 ∷ []) ∷ (4 ∷ 5 ∷ 6 ∷ 8 ∷ []) ∷ (4 ∷ 5 ∷ 6 ∷ 9 ∷ []) ∷ (4 ∷ 5 ∷ 7 ∷ 9 ∷ []) ∷ [])
      ((1 ∷ 3 ∷ 4 ∷ 8 ∷ []) ∷ (4 ∷ 5 ∷ 6 ∷ 9 ∷ []) ∷ [])
      ((1 ∷ 3 ∷ 4 ∷ 8 ∷ []) ∷ (4 ∷ 5 ∷ 7 ∷ 9 ∷ []) ∷ [])
      2 4
  pub five : Results pattern_five text_five
      ((1 ∷ 2 ∷ 5 ∷ 7 ∷ []) ∷ (1 ∷ 4 ∷ 5 ∷ 7 ∷ []) ∷ (3 ∷ 4 ∷ 5 ∷ 7 ∷ []) ∷ (3 ∷ 6 ∷ 8 ∷ 9 ∷ []) ∷ (7 ∷ 10 ∷ 11 ∷ 12 ∷ []) ∷ (9 ∷ 10 ∷ 11 ∷ 12 ∷ []) ∷ (12 ∷ 13 ∷ 15 ∷ 16 ∷ []) ∷ (12 ∷ 14 ∷ 15 ∷ 16 ∷ []) ∷ [])
      ((1 ∷ 2 ∷ 5 ∷ 7 ∷ []) ∷ (3 ∷ 6 ∷ 8 ∷ 9 ∷ []) ∷ (7 ∷ 10 ∷ 11 ∷ 12 ∷ []) ∷ (12 ∷ 13 ∷ 15 ∷ 16 ∷ []) ∷ [])
      ((1 ∷ 4 ∷ 5 ∷ 7 ∷ []) ∷ (3 ∷ 6 ∷ 8 ∷ 9 ∷ []) ∷ (9 ∷ 10 ∷ 11 ∷ 12 ∷ []) ∷ (12 ∷ 14 ∷ 15 ∷ 16 ∷ []) ∷ [])
      4 8
  pub six : Results pattern_six text_six
      ((1 ∷ 2 ∷ 4 ∷ []) ∷ (1 ∷ 2 ∷ 6 ∷ []) ∷ (1 ∷ 3 ∷ 6 ∷ []) ∷ (1 ∷ 5 ∷ 8 ∷ []) ∷ (1 ∷ 5 ∷ 9 ∷ []) ∷ [])
      ((1 ∷ 2 ∷ 4 ∷ []) ∷ [])
      ((1 ∷ 5 ∷ 9 ∷ []) ∷ [])
      1 5
  pub seven : Results pattern_seven text_seven
      ((2 ∷ 3 ∷ 5 ∷ []) ∷ [])
      ((2 ∷ 3 ∷ 5 ∷ []) ∷ [])
      ((2 ∷ 3 ∷ 5 ∷ []) ∷ [])
      1 1
  pub eight : Results pattern_eight text_eight
      ((1 ∷ 2 ∷ 4 ∷ []) ∷ [])
      ((1 ∷ 2 ∷ 4 ∷ []) ∷ [])
      ((1 ∷ 2 ∷ 4 ∷ []) ∷ [])
      1 1
  pub nine : (f : Pattern) → Accepted f → Nothing f
