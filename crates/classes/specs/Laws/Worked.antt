-- The worked text comes to what is stated: the expression is read by computing, and the occurrences are enumerated depth first.
use Rattle.std.proofs.Common.{arith, lit≤}
use Rattle.std.specs.Prelude.{◌≡◌, refl, [], ◌∷◌}
use Rattle.basics.specs.Choice.{only}
use Rattle.basics.specs.Collections.{keep, select}
use Rattle.basics.specs.Sums.{gather}
use Rattle.pattern.specs.Patterns.{member, takes}
use Rattle.pattern.specs.Words.{rises}
use Rattle.pattern.specs.Tests.{slot_verdict, slots_verdict, span_verdict, limits_verdict, pattern_verdict, input_verdict}
use Rattle.matching.specs.Occurrence.{plain}
use Rattle.matching.specs.Occurrences.{each, places, occurrences}
use Rattle.matching.specs.Rows.{before, meet, join}
use Rattle.matching.specs.Searches.{nearest, extreme, earliest_of, latest_of}
use Rattle.matching.specs.Lists.{onward, follow}
use Rattle.matching.specs.Branches.{stands, branches}
use Rattle.matching.specs.Spans.{distance, width, next_end, horizon, limit, least}
use Rattle.matching.specs.Texts.{one_word, pattern_of, Results}
use Rattle.matching.proofs.Laws.Branches.{tree, forest}
use Rattle.matching.proofs.Laws.Cover.{occurrences_each}
use Rattle.matching.proofs.Laws.Texts.{results}
use Rattle.classes.specs.Trees.{meets}
use Rattle.classes.specs.Grammar.{Grammar, alternative}
use Rattle.classes.specs.Recoding.{recoded_words}
use Rattle.classes.specs.Worked.{text_classed, classes_classed, expression_classed, reading_classed, text-recoded, pattern_classed, Worked}
use Rattle.classes.specs.Steps.Reader.{step, ending}
use Rattle.classes.specs.Laws.Sound.{sound}
use Rattle.classes.specs.Laws.Recoded.{Fine, good_call}

is_read : Grammar alternative expression_classed reading_classed 1
unfolding expression_classed reading_classed ending step
is_read = sound refl

fine : Fine text_classed classes_classed 900
unfolding text_classed classes_classed
fine = record { short = lit≤ tt; equal = refl; coded = λ e. omega arith }

hits : occurrences pattern_classed text-recoded ≡ (1 ∷ 2 ∷ []) ∷ (9 ∷ 11 ∷ []) ∷ []
unfolding pattern_classed text-recoded pattern_of one_word forest tree gather places branches only stands takes member distance width next_end horizon limit least
hits = occurrences_each pattern_classed (plain pattern_classed text-recoded) (lit≤ tt) (lit≤ tt)

counts : Results pattern_classed text-recoded ((1 ∷ 2 ∷ []) ∷ (9 ∷ 11 ∷ []) ∷ []) ((1 ∷ 2 ∷ []) ∷ (9 ∷ 11 ∷ []) ∷ []) ((1 ∷ 2 ∷ []) ∷ (9 ∷ 11 ∷ []) ∷ []) 2 2
unfolding pattern_classed text-recoded pattern_of one_word input_verdict pattern_verdict limits_verdict slots_verdict slot_verdict span_verdict rises member follow onward earliest_of latest_of extreme nearest select keep before each meet join
counts = results hits refl refl refl refl refl

pub worked : Worked
unfolding text_classed classes_classed expression_classed text-recoded reading_classed recoded_words meets
worked = record { read = is_read; recoded = λ p h. good_call p is_read (lit≤ tt) (lit≤ tt) fine h; counted = counts }
