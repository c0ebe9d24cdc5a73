-- The texts for excluding slots come to what is stated: all occurrences are enumerated depth first, and the rest is computed from them.
use Rattle.std.specs.Prelude.{◌≡◌, refl, [], ◌∷◌}
use Rattle.std.proofs.Common.{sym, true≢false, lit≤}
use Rattle.basics.specs.Choice.{only}
use Rattle.basics.specs.Collections.{keep, select}
use Rattle.basics.specs.Sums.{gather}
use Rattle.pattern.specs.Patterns.{member, takes}
use Rattle.pattern.specs.Words.{rises}
use Rattle.pattern.specs.Tests.{slot_verdict, slots_verdict, span_verdict, limits_verdict, pattern_verdict, input_verdict}
use Rattle.matching.specs.Occurrence.{plain, Occurs}
use Rattle.matching.specs.Occurrences.{within, each, unbroken, place_fits_in, word_in, gap_fits, gap, span, sentence_in, occurs_in, places, occurrences}
use Rattle.matching.specs.Rows.{before, meet, join}
use Rattle.matching.specs.Searches.{nearest, extreme, earliest_of, latest_of}
use Rattle.matching.specs.Lists.{onward, follow}
use Rattle.matching.specs.Branches.{stands, branches}
use Rattle.matching.specs.Spans.{distance, width, next_end, horizon, limit, least}
use Rattle.matching.specs.Texts.{one_word, pattern_of, Results}
use Rattle.matching.specs.ExcludingTexts.{any_but, text-compared, text-shared, text-beside, text_past, text-every, text-sentence, text-fitting, pattern-compared, pattern-shared, pattern_next, pattern_near, pattern-every, pattern_in_a_row, pattern_without_b, pattern_without_x, ExcludingTexts}
use Rattle.matching.proofs.Laws.Tests.{occurs_iff}
use Rattle.matching.proofs.Laws.Branches.{tree, forest}
use Rattle.matching.proofs.Laws.Cover.{occurrences_each}
use Rattle.matching.proofs.Laws.Texts.{results}

hits-compared : occurrences pattern-compared text-compared ≡ (1 ∷ 2 ∷ 3 ∷ []) ∷ (5 ∷ 6 ∷ 7 ∷ []) ∷ []
unfolding pattern-compared text-compared pattern_of one_word any_but forest tree gather places branches only stands takes member distance width next_end horizon limit least
hits-compared = occurrences_each pattern-compared (plain pattern-compared text-compared) (lit≤ tt) (lit≤ tt)

compared : Results pattern-compared text-compared
    ((1 ∷ 2 ∷ 3 ∷ []) ∷ (5 ∷ 6 ∷ 7 ∷ []) ∷ [])
    ((1 ∷ 2 ∷ 3 ∷ []) ∷ (5 ∷ 6 ∷ 7 ∷ []) ∷ [])
    ((1 ∷ 2 ∷ 3 ∷ []) ∷ (5 ∷ 6 ∷ 7 ∷ []) ∷ [])
    2 2
unfolding pattern-compared text-compared pattern_of one_word any_but input_verdict pattern_verdict limits_verdict slots_verdict slot_verdict span_verdict rises member follow onward earliest_of latest_of extreme nearest select keep before each meet join
compared = results hits-compared refl refl refl refl refl

compared_not : Occurs pattern-compared text-compared (3 ∷ 4 ∷ 5 ∷ []) → ⊥
unfolding pattern-compared text-compared pattern_of one_word any_but occurs_in word_in place_fits_in gap gap_fits span sentence_in within each unbroken takes member
compared_not o = true≢false (sym ((occurs_iff pattern-compared (plain pattern-compared text-compared) (3 ∷ 4 ∷ 5 ∷ [])).1 o))

hits-shared : occurrences pattern-shared text-shared ≡ (1 ∷ 2 ∷ 3 ∷ []) ∷ (1 ∷ 3 ∷ 5 ∷ []) ∷ []
unfolding pattern-shared text-shared pattern_of one_word any_but forest tree gather places branches only stands takes member distance width next_end horizon limit least
hits-shared = occurrences_each pattern-shared (plain pattern-shared text-shared) (lit≤ tt) (lit≤ tt)

shared : Results pattern-shared text-shared
    ((1 ∷ 2 ∷ 3 ∷ []) ∷ (1 ∷ 3 ∷ 5 ∷ []) ∷ [])
    ((1 ∷ 2 ∷ 3 ∷ []) ∷ [])
    ((1 ∷ 3 ∷ 5 ∷ []) ∷ [])
    1 2
unfolding pattern-shared text-shared pattern_of one_word any_but input_verdict pattern_verdict limits_verdict slots_verdict slot_verdict span_verdict rises member follow onward earliest_of latest_of extreme nearest select keep before each meet join
shared = results hits-shared refl refl refl refl refl

shared_not : Occurs pattern-shared text-shared (3 ∷ 4 ∷ 5 ∷ []) → ⊥
unfolding pattern-shared text-shared pattern_of one_word any_but occurs_in word_in place_fits_in gap gap_fits span sentence_in within each unbroken takes member
shared_not o = true≢false (sym ((occurs_iff pattern-shared (plain pattern-shared text-shared) (3 ∷ 4 ∷ 5 ∷ [])).1 o))

hits-beside : occurrences pattern_next text-beside ≡ (4 ∷ 5 ∷ []) ∷ []
unfolding pattern_next text-beside pattern_of one_word any_but forest tree gather places branches only stands takes member distance width next_end horizon limit least
hits-beside = occurrences_each pattern_next (plain pattern_next text-beside) (lit≤ tt) (lit≤ tt)

beside : Results pattern_next text-beside
    ((4 ∷ 5 ∷ []) ∷ [])
    ((4 ∷ 5 ∷ []) ∷ [])
    ((4 ∷ 5 ∷ []) ∷ [])
    1 1
unfolding pattern_next text-beside pattern_of one_word any_but input_verdict pattern_verdict limits_verdict slots_verdict slot_verdict span_verdict rises member follow onward earliest_of latest_of extreme nearest select keep before each meet join
beside = results hits-beside refl refl refl refl refl

beside_not : Occurs pattern_next text-beside (1 ∷ 2 ∷ []) → ⊥
unfolding pattern_next text-beside pattern_of one_word any_but occurs_in word_in place_fits_in gap gap_fits span sentence_in within each unbroken takes member
beside_not o = true≢false (sym ((occurs_iff pattern_next (plain pattern_next text-beside) (1 ∷ 2 ∷ [])).1 o))

hits_past : occurrences pattern_near text_past ≡ []
unfolding pattern_near text_past pattern_of one_word any_but forest tree gather places branches only stands takes member distance width next_end horizon limit least
hits_past = occurrences_each pattern_near (plain pattern_near text_past) (lit≤ tt) (lit≤ tt)

past : Results pattern_near text_past [] [] [] 0 0
unfolding pattern_near text_past pattern_of one_word any_but input_verdict pattern_verdict limits_verdict slots_verdict slot_verdict span_verdict rises member follow onward earliest_of latest_of extreme nearest select keep before each meet join
past = results hits_past refl refl refl refl refl

past_not : Occurs pattern_near text_past (1 ∷ 3 ∷ []) → ⊥
unfolding pattern_near text_past pattern_of one_word any_but occurs_in word_in place_fits_in gap gap_fits span sentence_in within each unbroken takes member
past_not o = true≢false (sym ((occurs_iff pattern_near (plain pattern_near text_past) (1 ∷ 3 ∷ [])).1 o))

hits-every : occurrences pattern-every text-every ≡ (1 ∷ []) ∷ (2 ∷ []) ∷ (4 ∷ []) ∷ []
unfolding pattern-every text-every pattern_of any_but forest tree gather places branches only stands takes member distance width next_end horizon limit least
hits-every = occurrences_each pattern-every (plain pattern-every text-every) (lit≤ tt) (lit≤ tt)

every : Results pattern-every text-every
    ((1 ∷ []) ∷ (2 ∷ []) ∷ (4 ∷ []) ∷ [])
    ((1 ∷ []) ∷ (2 ∷ []) ∷ (4 ∷ []) ∷ [])
    ((1 ∷ []) ∷ (2 ∷ []) ∷ (4 ∷ []) ∷ [])
    3 3
unfolding pattern-every text-every pattern_of any_but input_verdict pattern_verdict limits_verdict slots_verdict slot_verdict span_verdict rises member follow onward earliest_of latest_of extreme nearest select keep before each meet join
every = results hits-every refl refl refl refl refl

every_not : Occurs pattern-every text-every (3 ∷ []) → ⊥
unfolding pattern-every text-every pattern_of any_but occurs_in word_in place_fits_in gap gap_fits span sentence_in within each unbroken takes member
every_not o = true≢false (sym ((occurs_iff pattern-every (plain pattern-every text-every) (3 ∷ [])).1 o))

hits-sentence : occurrences pattern_in_a_row text-sentence ≡ (2 ∷ 3 ∷ 4 ∷ []) ∷ []
unfolding pattern_in_a_row text-sentence pattern_of any_but forest tree gather places branches only stands takes member distance width next_end horizon limit least
hits-sentence = occurrences_each pattern_in_a_row (plain pattern_in_a_row text-sentence) (lit≤ tt) (lit≤ tt)

sentence : Results pattern_in_a_row text-sentence
    ((2 ∷ 3 ∷ 4 ∷ []) ∷ [])
    ((2 ∷ 3 ∷ 4 ∷ []) ∷ [])
    ((2 ∷ 3 ∷ 4 ∷ []) ∷ [])
    1 1
unfolding pattern_in_a_row text-sentence pattern_of any_but input_verdict pattern_verdict limits_verdict slots_verdict slot_verdict span_verdict rises member follow onward earliest_of latest_of extreme nearest select keep before each meet join
sentence = results hits-sentence refl refl refl refl refl

sentence_not : Occurs pattern_in_a_row text-sentence (3 ∷ 4 ∷ 5 ∷ []) → ⊥
unfolding pattern_in_a_row text-sentence pattern_of any_but occurs_in word_in place_fits_in gap gap_fits span sentence_in within each unbroken takes member
sentence_not o = true≢false (sym ((occurs_iff pattern_in_a_row (plain pattern_in_a_row text-sentence) (3 ∷ 4 ∷ 5 ∷ [])).1 o))

hits_without : occurrences pattern_without_b text-fitting ≡ []
unfolding pattern_without_b text-fitting pattern_of one_word any_but forest tree gather places branches only stands takes member distance width next_end horizon limit least
hits_without = occurrences_each pattern_without_b (plain pattern_without_b text-fitting) (lit≤ tt) (lit≤ tt)

without : Results pattern_without_b text-fitting [] [] [] 0 0
unfolding pattern_without_b text-fitting pattern_of one_word any_but input_verdict pattern_verdict limits_verdict slots_verdict slot_verdict span_verdict rises member follow onward earliest_of latest_of extreme nearest select keep before each meet join
without = results hits_without refl refl refl refl refl

without_not : Occurs pattern_without_b text-fitting (1 ∷ 2 ∷ 3 ∷ []) → ⊥
unfolding pattern_without_b text-fitting pattern_of one_word any_but occurs_in word_in place_fits_in gap gap_fits span sentence_in within each unbroken takes member
without_not o = true≢false (sym ((occurs_iff pattern_without_b (plain pattern_without_b text-fitting) (1 ∷ 2 ∷ 3 ∷ [])).1 o))

hits-spared : occurrences pattern_without_x text-fitting ≡ (1 ∷ 2 ∷ 3 ∷ []) ∷ []
unfolding pattern_without_x text-fitting pattern_of one_word any_but forest tree gather places branches only stands takes member distance width next_end horizon limit least
hits-spared = occurrences_each pattern_without_x (plain pattern_without_x text-fitting) (lit≤ tt) (lit≤ tt)

spared : Results pattern_without_x text-fitting
    ((1 ∷ 2 ∷ 3 ∷ []) ∷ [])
    ((1 ∷ 2 ∷ 3 ∷ []) ∷ [])
    ((1 ∷ 2 ∷ 3 ∷ []) ∷ [])
    1 1
unfolding pattern_without_x text-fitting pattern_of one_word any_but input_verdict pattern_verdict limits_verdict slots_verdict slot_verdict span_verdict rises member follow onward earliest_of latest_of extreme nearest select keep before each meet join
spared = results hits-spared refl refl refl refl refl

pub excluding_texts : ExcludingTexts
excluding_texts = record {
  compared = compared;
  compared_not = compared_not;
  shared = shared;
  shared_not = shared_not;
  beside = beside;
  beside_not = beside_not;
  past = past;
  past_not = past_not;
  every = every;
  every_not = every_not;
  sentence = sentence;
  sentence_not = sentence_not;
  without = without;
  without_not = without_not;
  spared = spared;
}
