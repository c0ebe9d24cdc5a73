-- The texts with sentence ends come to what is stated: all occurrences are enumerated depth first, and the rest is computed from them.
use Rattle.std.specs.Prelude.{◌≡◌, refl, [], ◌∷◌}
use Rattle.std.proofs.Common.{sym, true≢false, lit≤}
use Rattle.basics.specs.Choice.{only}
use Rattle.basics.specs.Collections.{keep, select}
use Rattle.basics.specs.Sums.{gather}
use Rattle.pattern.specs.Patterns.{member, takes}
use Rattle.pattern.specs.Words.{rises}
use Rattle.pattern.specs.Tests.{slot_verdict, slots_verdict, span_verdict, limits_verdict, pattern_verdict, input_verdict}
use Rattle.matching.specs.Occurrence.{plain, Occurs}
use Rattle.matching.specs.Occurrences.{within, each, unbroken, place_fits_in, word_in, gap_fits, gap, span, sentence_in, occurs_in, places, occurrences}
use Rattle.matching.specs.Rows.{before, meet, join}
use Rattle.matching.specs.Searches.{nearest, extreme, earliest_of, latest_of}
use Rattle.matching.specs.Lists.{onward, follow}
use Rattle.matching.specs.Branches.{stands, branches}
use Rattle.matching.specs.Spans.{distance, width, next_end, horizon, limit, least}
use Rattle.matching.specs.Texts.{one_word, pattern_of, Results}
use Rattle.matching.specs.SentenceTexts.{text-parted, text_whole, text-after_first, text_before_last, text_two_stops, text_empty_sentence, text_outside, text_later, text_later_open, text_several, text_several_open, text-spanned, text-inner, text_single, pattern_pair, pattern_triple, pattern-spanned, pattern-inner, pattern_single, SentenceTexts}
use Rattle.matching.proofs.Laws.Tests.{occurs_iff}
use Rattle.matching.proofs.Laws.Branches.{tree, forest}
use Rattle.matching.proofs.Laws.Cover.{occurrences_each}
use Rattle.matching.proofs.Laws.Texts.{results}

hits-parted : occurrences pattern_pair text-parted ≡ []
unfolding pattern_pair text-parted pattern_of one_word forest tree gather places branches only stands takes member distance width next_end horizon limit least
hits-parted = occurrences_each pattern_pair (plain pattern_pair text-parted) (lit≤ tt) (lit≤ tt)

parted : Results pattern_pair text-parted [] [] [] 0 0
unfolding pattern_pair text-parted pattern_of one_word input_verdict pattern_verdict limits_verdict slots_verdict slot_verdict span_verdict rises member follow onward earliest_of latest_of extreme nearest select keep before each meet join
parted = results hits-parted refl refl refl refl refl

parted_not : Occurs pattern_pair text-parted (2 ∷ 4 ∷ []) → ⊥
unfolding pattern_pair text-parted pattern_of one_word occurs_in word_in place_fits_in gap gap_fits span sentence_in within each unbroken takes member
parted_not o = true≢false (sym ((occurs_iff pattern_pair (plain pattern_pair text-parted) (2 ∷ 4 ∷ [])).1 o))

hits_whole : occurrences pattern_pair text_whole ≡ (2 ∷ 3 ∷ []) ∷ []
unfolding pattern_pair text_whole pattern_of one_word forest tree gather places branches only stands takes member distance width next_end horizon limit least
hits_whole = occurrences_each pattern_pair (plain pattern_pair text_whole) (lit≤ tt) (lit≤ tt)

whole : Results pattern_pair text_whole
    ((2 ∷ 3 ∷ []) ∷ [])
    ((2 ∷ 3 ∷ []) ∷ [])
    ((2 ∷ 3 ∷ []) ∷ [])
    1 1
unfolding pattern_pair text_whole pattern_of one_word input_verdict pattern_verdict limits_verdict slots_verdict slot_verdict span_verdict rises member follow onward earliest_of latest_of extreme nearest select keep before each meet join
whole = results hits_whole refl refl refl refl refl

hits-after_first : occurrences pattern_pair text-after_first ≡ []
unfolding pattern_pair text-after_first pattern_of one_word forest tree gather places branches only stands takes member distance width next_end horizon limit least
hits-after_first = occurrences_each pattern_pair (plain pattern_pair text-after_first) (lit≤ tt) (lit≤ tt)

after_first : Results pattern_pair text-after_first [] [] [] 0 0
unfolding pattern_pair text-after_first pattern_of one_word input_verdict pattern_verdict limits_verdict slots_verdict slot_verdict span_verdict rises member follow onward earliest_of latest_of extreme nearest select keep before each meet join
after_first = results hits-after_first refl refl refl refl refl

after_first_not : Occurs pattern_pair text-after_first (1 ∷ 4 ∷ []) → ⊥
unfolding pattern_pair text-after_first pattern_of one_word occurs_in word_in place_fits_in gap gap_fits span sentence_in within each unbroken takes member
after_first_not o = true≢false (sym ((occurs_iff pattern_pair (plain pattern_pair text-after_first) (1 ∷ 4 ∷ [])).1 o))

hits_before_last : occurrences pattern_pair text_before_last ≡ []
unfolding pattern_pair text_before_last pattern_of one_word forest tree gather places branches only stands takes member distance width next_end horizon limit least
hits_before_last = occurrences_each pattern_pair (plain pattern_pair text_before_last) (lit≤ tt) (lit≤ tt)

before_last : Results pattern_pair text_before_last [] [] [] 0 0
unfolding pattern_pair text_before_last pattern_of one_word input_verdict pattern_verdict limits_verdict slots_verdict slot_verdict span_verdict rises member follow onward earliest_of latest_of extreme nearest select keep before each meet join
before_last = results hits_before_last refl refl refl refl refl

before_last_not : Occurs pattern_pair text_before_last (1 ∷ 4 ∷ []) → ⊥
unfolding pattern_pair text_before_last pattern_of one_word occurs_in word_in place_fits_in gap gap_fits span sentence_in within each unbroken takes member
before_last_not o = true≢false (sym ((occurs_iff pattern_pair (plain pattern_pair text_before_last) (1 ∷ 4 ∷ [])).1 o))

hits_two_stops : occurrences pattern_pair text_two_stops ≡ []
unfolding pattern_pair text_two_stops pattern_of one_word forest tree gather places branches only stands takes member distance width next_end horizon limit least
hits_two_stops = occurrences_each pattern_pair (plain pattern_pair text_two_stops) (lit≤ tt) (lit≤ tt)

two_stops : Results pattern_pair text_two_stops [] [] [] 0 0
unfolding pattern_pair text_two_stops pattern_of one_word input_verdict pattern_verdict limits_verdict slots_verdict slot_verdict span_verdict rises member follow onward earliest_of latest_of extreme nearest select keep before each meet join
two_stops = results hits_two_stops refl refl refl refl refl

two_stops_not : Occurs pattern_pair text_two_stops (1 ∷ 5 ∷ []) → ⊥
unfolding pattern_pair text_two_stops pattern_of one_word occurs_in word_in place_fits_in gap gap_fits span sentence_in within each unbroken takes member
two_stops_not o = true≢false (sym ((occurs_iff pattern_pair (plain pattern_pair text_two_stops) (1 ∷ 5 ∷ [])).1 o))

hits_empty_sentence : occurrences pattern_pair text_empty_sentence ≡ (4 ∷ 5 ∷ []) ∷ []
unfolding pattern_pair text_empty_sentence pattern_of one_word forest tree gather places branches only stands takes member distance width next_end horizon limit least
hits_empty_sentence = occurrences_each pattern_pair (plain pattern_pair text_empty_sentence) (lit≤ tt) (lit≤ tt)

empty_sentence : Results pattern_pair text_empty_sentence
    ((4 ∷ 5 ∷ []) ∷ [])
    ((4 ∷ 5 ∷ []) ∷ [])
    ((4 ∷ 5 ∷ []) ∷ [])
    1 1
unfolding pattern_pair text_empty_sentence pattern_of one_word input_verdict pattern_verdict limits_verdict slots_verdict slot_verdict span_verdict rises member follow onward earliest_of latest_of extreme nearest select keep before each meet join
empty_sentence = results hits_empty_sentence refl refl refl refl refl

empty_sentence_not : Occurs pattern_pair text_empty_sentence (1 ∷ 5 ∷ []) → ⊥
unfolding pattern_pair text_empty_sentence pattern_of one_word occurs_in word_in place_fits_in gap gap_fits span sentence_in within each unbroken takes member
empty_sentence_not o = true≢false (sym ((occurs_iff pattern_pair (plain pattern_pair text_empty_sentence) (1 ∷ 5 ∷ [])).1 o))

hits_outside : occurrences pattern_pair text_outside ≡ (2 ∷ 4 ∷ []) ∷ []
unfolding pattern_pair text_outside pattern_of one_word forest tree gather places branches only stands takes member distance width next_end horizon limit least
hits_outside = occurrences_each pattern_pair (plain pattern_pair text_outside) (lit≤ tt) (lit≤ tt)

outside : Results pattern_pair text_outside
    ((2 ∷ 4 ∷ []) ∷ [])
    ((2 ∷ 4 ∷ []) ∷ [])
    ((2 ∷ 4 ∷ []) ∷ [])
    1 1
unfolding pattern_pair text_outside pattern_of one_word input_verdict pattern_verdict limits_verdict slots_verdict slot_verdict span_verdict rises member follow onward earliest_of latest_of extreme nearest select keep before each meet join
outside = results hits_outside refl refl refl refl refl

hits_later : occurrences pattern_pair text_later ≡ (3 ∷ 4 ∷ []) ∷ []
unfolding pattern_pair text_later pattern_of one_word forest tree gather places branches only stands takes member distance width next_end horizon limit least
hits_later = occurrences_each pattern_pair (plain pattern_pair text_later) (lit≤ tt) (lit≤ tt)

later : Results pattern_pair text_later
    ((3 ∷ 4 ∷ []) ∷ [])
    ((3 ∷ 4 ∷ []) ∷ [])
    ((3 ∷ 4 ∷ []) ∷ [])
    1 1
unfolding pattern_pair text_later pattern_of one_word input_verdict pattern_verdict limits_verdict slots_verdict slot_verdict span_verdict rises member follow onward earliest_of latest_of extreme nearest select keep before each meet join
later = results hits_later refl refl refl refl refl

later_not : Occurs pattern_pair text_later (1 ∷ 4 ∷ []) → ⊥
unfolding pattern_pair text_later pattern_of one_word occurs_in word_in place_fits_in gap gap_fits span sentence_in within each unbroken takes member
later_not o = true≢false (sym ((occurs_iff pattern_pair (plain pattern_pair text_later) (1 ∷ 4 ∷ [])).1 o))

hits_later_open : occurrences pattern_pair text_later_open ≡ (1 ∷ 4 ∷ []) ∷ (3 ∷ 4 ∷ []) ∷ []
unfolding pattern_pair text_later_open pattern_of one_word forest tree gather places branches only stands takes member distance width next_end horizon limit least
hits_later_open = occurrences_each pattern_pair (plain pattern_pair text_later_open) (lit≤ tt) (lit≤ tt)

later_open : Results pattern_pair text_later_open
    ((1 ∷ 4 ∷ []) ∷ (3 ∷ 4 ∷ []) ∷ [])
    ((1 ∷ 4 ∷ []) ∷ [])
    ((3 ∷ 4 ∷ []) ∷ [])
    1 2
unfolding pattern_pair text_later_open pattern_of one_word input_verdict pattern_verdict limits_verdict slots_verdict slot_verdict span_verdict rises member follow onward earliest_of latest_of extreme nearest select keep before each meet join
later_open = results hits_later_open refl refl refl refl refl

hits_several : occurrences pattern_triple text_several ≡ (1 ∷ 3 ∷ 5 ∷ []) ∷ (1 ∷ 4 ∷ 5 ∷ []) ∷ (2 ∷ 3 ∷ 5 ∷ []) ∷ (2 ∷ 4 ∷ 5 ∷ []) ∷ (9 ∷ 10 ∷ 11 ∷ []) ∷ []
unfolding pattern_triple text_several pattern_of one_word forest tree gather places branches only stands takes member distance width next_end horizon limit least
hits_several = occurrences_each pattern_triple (plain pattern_triple text_several) (lit≤ tt) (lit≤ tt)

several : Results pattern_triple text_several
    ((1 ∷ 3 ∷ 5 ∷ []) ∷ (1 ∷ 4 ∷ 5 ∷ []) ∷ (2 ∷ 3 ∷ 5 ∷ []) ∷ (2 ∷ 4 ∷ 5 ∷ []) ∷ (9 ∷ 10 ∷ 11 ∷ []) ∷ [])
    ((1 ∷ 3 ∷ 5 ∷ []) ∷ (9 ∷ 10 ∷ 11 ∷ []) ∷ [])
    ((2 ∷ 4 ∷ 5 ∷ []) ∷ (9 ∷ 10 ∷ 11 ∷ []) ∷ [])
    2 5
unfolding pattern_triple text_several pattern_of one_word input_verdict pattern_verdict limits_verdict slots_verdict slot_verdict span_verdict rises member follow onward earliest_of latest_of extreme nearest select keep before each meet join
several = results hits_several refl refl refl refl refl

several_not : Occurs pattern_triple text_several (2 ∷ 4 ∷ 7 ∷ []) → ⊥
unfolding pattern_triple text_several pattern_of one_word occurs_in word_in place_fits_in gap gap_fits span sentence_in within each unbroken takes member
several_not o = true≢false (sym ((occurs_iff pattern_triple (plain pattern_triple text_several) (2 ∷ 4 ∷ 7 ∷ [])).1 o))

hits_several_open : occurrences pattern_triple text_several_open ≡ (1 ∷ 3 ∷ 5 ∷ []) ∷ (1 ∷ 4 ∷ 5 ∷ []) ∷ (1 ∷ 4 ∷ 7 ∷ []) ∷ (2 ∷ 3 ∷ 5 ∷ []) ∷ (2 ∷ 4 ∷ 5 ∷ []) ∷ (2 ∷ 4 ∷ 7 ∷ []) ∷ (9 ∷ 10 ∷ 11 ∷ []) ∷ []
unfolding pattern_triple text_several_open pattern_of one_word forest tree gather places branches only stands takes member distance width next_end horizon limit least
hits_several_open = occurrences_each pattern_triple (plain pattern_triple text_several_open) (lit≤ tt) (lit≤ tt)

several_open : Results pattern_triple text_several_open
    ((1 ∷ 3 ∷ 5 ∷ []) ∷ (1 ∷ 4 ∷ 5 ∷ []) ∷ (1 ∷ 4 ∷ 7 ∷ []) ∷ (2 ∷ 3 ∷ 5 ∷ []) ∷ (2 ∷ 4 ∷ 5 ∷ []) ∷ (2 ∷ 4 ∷ 7 ∷ []) ∷ (9 ∷ 10 ∷ 11 ∷ []) ∷ [])
    ((1 ∷ 3 ∷ 5 ∷ []) ∷ (2 ∷ 4 ∷ 7 ∷ []) ∷ (9 ∷ 10 ∷ 11 ∷ []) ∷ [])
    ((1 ∷ 3 ∷ 5 ∷ []) ∷ (2 ∷ 4 ∷ 7 ∷ []) ∷ (9 ∷ 10 ∷ 11 ∷ []) ∷ [])
    3 7
unfolding pattern_triple text_several_open pattern_of one_word input_verdict pattern_verdict limits_verdict slots_verdict slot_verdict span_verdict rises member follow onward earliest_of latest_of extreme nearest select keep before each meet join
several_open = results hits_several_open refl refl refl refl refl

hits-spanned : occurrences pattern-spanned text-spanned ≡ (1 ∷ 3 ∷ 4 ∷ []) ∷ (6 ∷ 7 ∷ 9 ∷ []) ∷ []
unfolding pattern-spanned text-spanned pattern_of one_word forest tree gather places branches only stands takes member distance width next_end horizon limit least
hits-spanned = occurrences_each pattern-spanned (plain pattern-spanned text-spanned) (lit≤ tt) (lit≤ tt)

spanned : Results pattern-spanned text-spanned
    ((1 ∷ 3 ∷ 4 ∷ []) ∷ (6 ∷ 7 ∷ 9 ∷ []) ∷ [])
    ((1 ∷ 3 ∷ 4 ∷ []) ∷ (6 ∷ 7 ∷ 9 ∷ []) ∷ [])
    ((1 ∷ 3 ∷ 4 ∷ []) ∷ (6 ∷ 7 ∷ 9 ∷ []) ∷ [])
    2 2
unfolding pattern-spanned text-spanned pattern_of one_word input_verdict pattern_verdict limits_verdict slots_verdict slot_verdict span_verdict rises member follow onward earliest_of latest_of extreme nearest select keep before each meet join
spanned = results hits-spanned refl refl refl refl refl

spanned_not : Occurs pattern-spanned text-spanned (10 ∷ 11 ∷ 13 ∷ []) → ⊥
unfolding pattern-spanned text-spanned pattern_of one_word occurs_in word_in place_fits_in gap gap_fits span sentence_in within each unbroken takes member
spanned_not o = true≢false (sym ((occurs_iff pattern-spanned (plain pattern-spanned text-spanned) (10 ∷ 11 ∷ 13 ∷ [])).1 o))

hits-inner : occurrences pattern-inner text-inner ≡ (5 ∷ 6 ∷ 7 ∷ 8 ∷ []) ∷ []
unfolding pattern-inner text-inner pattern_of one_word forest tree gather places branches only stands takes member distance width next_end horizon limit least
hits-inner = occurrences_each pattern-inner (plain pattern-inner text-inner) (lit≤ tt) (lit≤ tt)

inner : Results pattern-inner text-inner
    ((5 ∷ 6 ∷ 7 ∷ 8 ∷ []) ∷ [])
    ((5 ∷ 6 ∷ 7 ∷ 8 ∷ []) ∷ [])
    ((5 ∷ 6 ∷ 7 ∷ 8 ∷ []) ∷ [])
    1 1
unfolding pattern-inner text-inner pattern_of one_word input_verdict pattern_verdict limits_verdict slots_verdict slot_verdict span_verdict rises member follow onward earliest_of latest_of extreme nearest select keep before each meet join
inner = results hits-inner refl refl refl refl refl

inner_not : Occurs pattern-inner text-inner (1 ∷ 2 ∷ 4 ∷ 5 ∷ []) → ⊥
unfolding pattern-inner text-inner pattern_of one_word occurs_in word_in place_fits_in gap gap_fits span sentence_in within each unbroken takes member
inner_not o = true≢false (sym ((occurs_iff pattern-inner (plain pattern-inner text-inner) (1 ∷ 2 ∷ 4 ∷ 5 ∷ [])).1 o))

hits_single : occurrences pattern_single text_single ≡ (2 ∷ []) ∷ (4 ∷ []) ∷ (5 ∷ []) ∷ []
unfolding pattern_single text_single pattern_of one_word forest tree gather places branches only stands takes member distance width next_end horizon limit least
hits_single = occurrences_each pattern_single (plain pattern_single text_single) (lit≤ tt) (lit≤ tt)

single : Results pattern_single text_single
    ((2 ∷ []) ∷ (4 ∷ []) ∷ (5 ∷ []) ∷ [])
    ((2 ∷ []) ∷ (4 ∷ []) ∷ (5 ∷ []) ∷ [])
    ((2 ∷ []) ∷ (4 ∷ []) ∷ (5 ∷ []) ∷ [])
    3 3
unfolding pattern_single text_single pattern_of one_word input_verdict pattern_verdict limits_verdict slots_verdict slot_verdict span_verdict rises member follow onward earliest_of latest_of extreme nearest select keep before each meet join
single = results hits_single refl refl refl refl refl

pub sentence_texts : SentenceTexts
sentence_texts = record {
  parted = parted;
  parted_not = parted_not;
  whole = whole;
  after_first = after_first;
  after_first_not = after_first_not;
  before_last = before_last;
  before_last_not = before_last_not;
  two_stops = two_stops;
  two_stops_not = two_stops_not;
  empty_sentence = empty_sentence;
  empty_sentence_not = empty_sentence_not;
  outside = outside;
  later = later;
  later_not = later_not;
  later_open = later_open;
  several = several;
  several_not = several_not;
  several_open = several_open;
  spanned = spanned;
  spanned_not = spanned_not;
  inner = inner;
  inner_not = inner_not;
  single = single;
}
