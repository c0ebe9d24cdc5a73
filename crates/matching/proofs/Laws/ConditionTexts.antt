-- The text for the conditions of an occurrence comes to what is stated: each condition of each row is computed.
use Rattle.std.specs.Prelude.{ℕ, ◌≡◌, refl, Bool, List, [], ◌∷◌, Ok}
use Rattle.std.proofs.Common.{lit≤}
use Rattle.basics.specs.Choice.{only}
use Rattle.basics.specs.Collections.{keep, select}
use Rattle.basics.specs.Sums.{gather}
use Rattle.pattern.specs.declared.Pattern.{Pattern}
use Rattle.pattern.specs.Patterns.{member, takes}
use Rattle.pattern.specs.Words.{rises}
use Rattle.pattern.specs.Tests.{slot_verdict, slots_verdict, span_verdict, limits_verdict, pattern_verdict, input_verdict}
use Rattle.matching.specs.Occurrence.{plain}
use Rattle.matching.specs.Occurrences.{within, each, unbroken, place_fits_in, word_in, gap_fits, gap, span, sentence_in, word, sentence, places, occurrences}
use Rattle.matching.specs.Rows.{before, meet, join}
use Rattle.matching.specs.Searches.{nearest, extreme, earliest_of, latest_of}
use Rattle.matching.specs.Lists.{onward, follow}
use Rattle.matching.specs.Branches.{stands, branches}
use Rattle.matching.specs.Spans.{distance, width, next_end, horizon, limit, least}
use Rattle.matching.specs.Answers.{row_verdict}
use Rattle.matching.specs.Texts.{one_word, pattern_of, Results}
use Rattle.matching.specs.ConditionTexts.{pattern-conditions, text-conditions, Conditions, ConditionTexts}
use Rattle.matching.proofs.Laws.Branches.{tree, forest}
use Rattle.matching.proofs.Laws.Cover.{occurrences_each}
use Rattle.matching.proofs.Laws.Texts.{results}

hits-conditions : occurrences pattern-conditions text-conditions ≡ (1 ∷ 4 ∷ []) ∷ []
unfolding pattern-conditions text-conditions pattern_of one_word forest tree gather places branches only stands takes member distance width next_end horizon limit least
hits-conditions = occurrences_each pattern-conditions (plain pattern-conditions text-conditions) (lit≤ tt) (lit≤ tt)

results-conditions : Results pattern-conditions text-conditions ((1 ∷ 4 ∷ []) ∷ []) ((1 ∷ 4 ∷ []) ∷ []) ((1 ∷ 4 ∷ []) ∷ []) 1 1
unfolding pattern-conditions text-conditions pattern_of one_word input_verdict pattern_verdict limits_verdict slots_verdict slot_verdict span_verdict rises member follow onward earliest_of latest_of extreme nearest select keep before each meet join
results-conditions = results hits-conditions refl refl refl refl refl

conditions : {f : Pattern} {t r : List ℕ} {w g s u : Bool} → row_verdict f t r ≡ Ok tt → word f t r ≡ w → gap f r ≡ g → span f r ≡ s → sentence f t r ≡ u → Conditions f t r w g s u
conditions a w g s u = record { accepted = a; word_is = w; gap_is = g; span_is = s; sentence_is = u }

pub condition_texts : ConditionTexts
unfolding pattern-conditions text-conditions pattern_of one_word row_verdict input_verdict pattern_verdict limits_verdict slots_verdict slot_verdict span_verdict rises member takes word_in place_fits_in gap gap_fits span sentence_in within each unbroken
condition_texts = record {
  results = results-conditions;
  all_hold = conditions refl refl refl refl refl;
  word_alone = conditions refl refl refl refl refl;
  gap_alone = conditions refl refl refl refl refl;
  span_alone = conditions refl refl refl refl refl;
  sentence_alone = conditions refl refl refl refl refl;
}
