-- The nine texts come to what document 01 says: all occurrences are enumerated depth first, and the rest is computed from them.
use Rattle.std.specs.Prelude.{ℕ, ◌≤◌, ◌≡◌, refl, Ok}
use Rattle.std.proofs.Common.{arith, sym, ◌∙◌, true≢false, lit≤}
use Rattle.std.proofs.Math.Path.{ap}
use mathlib.Core.List.{List, [], ◌∷◌, reverse}
use Rattle.std.proofs.Math.ListN.{length}
use Rattle.pattern.specs.declared.Pattern.{Pattern}
use Rattle.pattern.specs.Patterns.{member, takes}
use Rattle.pattern.specs.Words.{rises}
use Rattle.pattern.specs.Tests.{slot_verdict, slots_verdict, span_verdict, limits_verdict, pattern_verdict, input_verdict}
use Rattle.pattern.specs.Accepted.{Accepted}
use Rattle.pattern.specs.Laws.Accepting.{input-accepted}
use Rattle.matching.specs.Occurrence.{plain, Occurs}
use Rattle.basics.specs.Collections.{keep, select}
use Rattle.matching.specs.Occurrences.{within, each, place_fits_in, word_in, gap_fits, gap, span, occurs_in, places, occurrences}
use Rattle.matching.specs.Rows.{level, before, meet, join}
use Rattle.matching.specs.Searches.{nearest, extreme, earliest_of, latest_of}
use Rattle.matching.specs.Lists.{onward, follow, leftmost_in, rightmost_in}
use Rattle.matching.specs.Largest.{Largest}
use Rattle.matching.specs.Texts.{one_word, pattern_of, text_one, text_three, text_four, text_five, text_six, text_seven, text_eight, pattern_one, pattern_two, pattern_three, pattern_four, pattern_five, pattern_six, pattern_seven, pattern_eight, Results, Nothing, NineTexts}
use Rattle.matching.proofs.Laws.Tests.{occurs_iff}
use Rattle.basics.specs.Sums.{gather}
use Rattle.basics.specs.Choice.{only}
use Rattle.matching.specs.Branches.{stands, branches}
use Rattle.matching.proofs.Laws.Branches.{tree, forest}
use Rattle.matching.specs.Spans.{distance, width, next_end, horizon, limit, least}
use Rattle.matching.proofs.Laws.Cover.{occurrences_each}
use Rattle.matching.proofs.Laws.Extremes.{earliest_none, latest_none}
use Rattle.matching.proofs.Laws.Largest.{largest}

-- the lists from the occurrences that were found
module _ {f : Pattern} {t : List ℕ} {hits : List (List ℕ)} (found : occurrences f t ≡ hits) where
  pub results : {front back : List (List ℕ)} {count tally : ℕ}
      → input_verdict f (length t) ≡ Ok tt
      → follow (λ marks. earliest_of f.count hits marks) (length t) (level f.count 0) ≡ front
      → reverse (follow (λ marks. latest_of f.count hits marks) (length t) (level f.count 65535)) ≡ back
      → length front ≡ count → length hits ≡ tally → Results f t hits front back count tally
  unfolding leftmost_in rightmost_in
  results ok a b c d =
      let e = ap (λ (R : List (List ℕ)). follow (λ marks. earliest_of f.count R marks) (length t) (level f.count 0)) found ∙ a in
      record {
        accepted = (input-accepted f (length t)).0 ok;
        all_hits = found;
        front-list = e;
        back_list = ap (λ (R : List (List ℕ)). reverse (follow (λ marks. latest_of f.count R marks) (length t) (level f.count 65535))) found ∙ b;
        counted = ap length e ∙ c;
        tallied = ap length found ∙ d;
      }

hits_one : occurrences pattern_one text_one ≡ (1 ∷ 3 ∷ 5 ∷ []) ∷ (5 ∷ 7 ∷ 8 ∷ []) ∷ (6 ∷ 7 ∷ 8 ∷ []) ∷ []
unfolding pattern_one text_one pattern_of one_word forest tree gather places branches only stands takes member distance width next_end horizon limit least
hits_one = occurrences_each pattern_one (plain pattern_one text_one) (lit≤ tt) (lit≤ tt)

one : Results pattern_one text_one
    ((1 ∷ 3 ∷ 5 ∷ []) ∷ (5 ∷ 7 ∷ 8 ∷ []) ∷ (6 ∷ 7 ∷ 8 ∷ []) ∷ [])
    ((1 ∷ 3 ∷ 5 ∷ []) ∷ (5 ∷ 7 ∷ 8 ∷ []) ∷ [])
    ((1 ∷ 3 ∷ 5 ∷ []) ∷ (6 ∷ 7 ∷ 8 ∷ []) ∷ [])
    2 3
unfolding pattern_one text_one pattern_of one_word input_verdict pattern_verdict limits_verdict slots_verdict slot_verdict span_verdict rises member follow onward earliest_of latest_of extreme nearest select keep before each meet join
one = results hits_one refl refl refl refl refl

hits_two : occurrences pattern_two text_one ≡ (1 ∷ 3 ∷ 5 ∷ []) ∷ (5 ∷ 7 ∷ 8 ∷ []) ∷ []
unfolding pattern_two text_one pattern_of one_word forest tree gather places branches only stands takes member distance width next_end horizon limit least
hits_two = occurrences_each pattern_two (plain pattern_two text_one) (lit≤ tt) (lit≤ tt)

two : Results pattern_two text_one
    ((1 ∷ 3 ∷ 5 ∷ []) ∷ (5 ∷ 7 ∷ 8 ∷ []) ∷ [])
    ((1 ∷ 3 ∷ 5 ∷ []) ∷ (5 ∷ 7 ∷ 8 ∷ []) ∷ [])
    ((1 ∷ 3 ∷ 5 ∷ []) ∷ (5 ∷ 7 ∷ 8 ∷ []) ∷ [])
    2 2
unfolding pattern_two text_one pattern_of one_word input_verdict pattern_verdict limits_verdict slots_verdict slot_verdict span_verdict rises member follow onward earliest_of latest_of extreme nearest select keep before each meet join
two = results hits_two refl refl refl refl refl

hits_three : occurrences pattern_three text_three ≡ (2 ∷ 3 ∷ 5 ∷ []) ∷ (2 ∷ 4 ∷ 5 ∷ []) ∷ (5 ∷ 6 ∷ 7 ∷ []) ∷ []
unfolding pattern_three text_three pattern_of one_word forest tree gather places branches only stands takes member distance width next_end horizon limit least
hits_three = occurrences_each pattern_three (plain pattern_three text_three) (lit≤ tt) (lit≤ tt)

three : Results pattern_three text_three
    ((2 ∷ 3 ∷ 5 ∷ []) ∷ (2 ∷ 4 ∷ 5 ∷ []) ∷ (5 ∷ 6 ∷ 7 ∷ []) ∷ [])
    ((2 ∷ 3 ∷ 5 ∷ []) ∷ (5 ∷ 6 ∷ 7 ∷ []) ∷ [])
    ((2 ∷ 4 ∷ 5 ∷ []) ∷ (5 ∷ 6 ∷ 7 ∷ []) ∷ [])
    2 3
unfolding pattern_three text_three pattern_of one_word input_verdict pattern_verdict limits_verdict slots_verdict slot_verdict span_verdict rises member follow onward earliest_of latest_of extreme nearest select keep before each meet join
three = results hits_three refl refl refl refl refl

hits_four : occurrences pattern_four text_four ≡ (1 ∷ 3 ∷ 4 ∷ 8 ∷ []) ∷ (4 ∷ 5 ∷ 6 ∷ 8 ∷ []) ∷ (4 ∷ 5 ∷ 6 ∷ 9 ∷ []) ∷ (4 ∷ 5 ∷ 7 ∷ 9 ∷ []) ∷ []
unfolding pattern_four text_four pattern_of one_word forest tree gather places branches only stands takes member distance width next_end horizon limit least
hits_four = occurrences_each pattern_four (plain pattern_four text_four) (lit≤ tt) (lit≤ tt)

four : Results pattern_four text_four
    ((1 ∷ 3 ∷ 4 ∷ 8 ∷ []) ∷ (4 ∷ 5 ∷ 6 ∷ 8 ∷ []) ∷ (4 ∷ 5 ∷ 6 ∷ 9 ∷ []) ∷ (4 ∷ 5 ∷ 7 ∷ 9 ∷ []) ∷ [])
    ((1 ∷ 3 ∷ 4 ∷ 8 ∷ []) ∷ (4 ∷ 5 ∷ 6 ∷ 9 ∷ []) ∷ [])
    ((1 ∷ 3 ∷ 4 ∷ 8 ∷ []) ∷ (4 ∷ 5 ∷ 7 ∷ 9 ∷ []) ∷ [])
    2 4
unfolding pattern_four text_four pattern_of one_word input_verdict pattern_verdict limits_verdict slots_verdict slot_verdict span_verdict rises member follow onward earliest_of latest_of extreme nearest select keep before each meet join
four = results hits_four refl refl refl refl refl

hits_five : occurrences pattern_five text_five ≡ (1 ∷ 2 ∷ 5 ∷ 7 ∷ []) ∷ (1 ∷ 4 ∷ 5 ∷ 7 ∷ []) ∷ (3 ∷ 4 ∷ 5 ∷ 7 ∷ []) ∷ (3 ∷ 6 ∷ 8 ∷ 9 ∷ []) ∷ (7 ∷ 10 ∷ 11 ∷ 12 ∷ []) ∷ (9 ∷ 10 ∷ 11 ∷ 12 ∷ []) ∷ (12 ∷ 13 ∷ 15 ∷ 16 ∷ []) ∷ (12 ∷ 14 ∷ 15 ∷ 16 ∷ []) ∷ []
unfolding pattern_five text_five pattern_of one_word forest tree gather places branches only stands takes member distance width next_end horizon limit least
hits_five = occurrences_each pattern_five (plain pattern_five text_five) (lit≤ tt) (lit≤ tt)

five : Results pattern_five text_five
    ((1 ∷ 2 ∷ 5 ∷ 7 ∷ []) ∷ (1 ∷ 4 ∷ 5 ∷ 7 ∷ []) ∷ (3 ∷ 4 ∷ 5 ∷ 7 ∷ []) ∷ (3 ∷ 6 ∷ 8 ∷ 9 ∷ []) ∷ (7 ∷ 10 ∷ 11 ∷ 12 ∷ []) ∷ (9 ∷ 10 ∷ 11 ∷ 12 ∷ []) ∷ (12 ∷ 13 ∷ 15 ∷ 16 ∷ []) ∷ (12 ∷ 14 ∷ 15 ∷ 16 ∷ []) ∷ [])
    ((1 ∷ 2 ∷ 5 ∷ 7 ∷ []) ∷ (3 ∷ 6 ∷ 8 ∷ 9 ∷ []) ∷ (7 ∷ 10 ∷ 11 ∷ 12 ∷ []) ∷ (12 ∷ 13 ∷ 15 ∷ 16 ∷ []) ∷ [])
    ((1 ∷ 4 ∷ 5 ∷ 7 ∷ []) ∷ (3 ∷ 6 ∷ 8 ∷ 9 ∷ []) ∷ (9 ∷ 10 ∷ 11 ∷ 12 ∷ []) ∷ (12 ∷ 14 ∷ 15 ∷ 16 ∷ []) ∷ [])
    4 8
unfolding pattern_five text_five pattern_of one_word input_verdict pattern_verdict limits_verdict slots_verdict slot_verdict span_verdict rises member follow onward earliest_of latest_of extreme nearest select keep before each meet join
five = results hits_five refl refl refl refl refl

hits_six : occurrences pattern_six text_six ≡ (1 ∷ 2 ∷ 4 ∷ []) ∷ (1 ∷ 2 ∷ 6 ∷ []) ∷ (1 ∷ 3 ∷ 6 ∷ []) ∷ (1 ∷ 5 ∷ 8 ∷ []) ∷ (1 ∷ 5 ∷ 9 ∷ []) ∷ []
unfolding pattern_six text_six pattern_of one_word forest tree gather places branches only stands takes member distance width next_end horizon limit least
hits_six = occurrences_each pattern_six (plain pattern_six text_six) (lit≤ tt) (lit≤ tt)

six : Results pattern_six text_six
    ((1 ∷ 2 ∷ 4 ∷ []) ∷ (1 ∷ 2 ∷ 6 ∷ []) ∷ (1 ∷ 3 ∷ 6 ∷ []) ∷ (1 ∷ 5 ∷ 8 ∷ []) ∷ (1 ∷ 5 ∷ 9 ∷ []) ∷ [])
    ((1 ∷ 2 ∷ 4 ∷ []) ∷ [])
    ((1 ∷ 5 ∷ 9 ∷ []) ∷ [])
    1 5
unfolding pattern_six text_six pattern_of one_word input_verdict pattern_verdict limits_verdict slots_verdict slot_verdict span_verdict rises member follow onward earliest_of latest_of extreme nearest select keep before each meet join
six = results hits_six refl refl refl refl refl

hits_seven : occurrences pattern_seven text_seven ≡ (2 ∷ 3 ∷ 5 ∷ []) ∷ []
unfolding pattern_seven text_seven pattern_of one_word forest tree gather places branches only stands takes member distance width next_end horizon limit least
hits_seven = occurrences_each pattern_seven (plain pattern_seven text_seven) (lit≤ tt) (lit≤ tt)

seven : Results pattern_seven text_seven
    ((2 ∷ 3 ∷ 5 ∷ []) ∷ [])
    ((2 ∷ 3 ∷ 5 ∷ []) ∷ [])
    ((2 ∷ 3 ∷ 5 ∷ []) ∷ [])
    1 1
unfolding pattern_seven text_seven pattern_of one_word input_verdict pattern_verdict limits_verdict slots_verdict slot_verdict span_verdict rises member follow onward earliest_of latest_of extreme nearest select keep before each meet join
seven = results hits_seven refl refl refl refl refl

hits_eight : occurrences pattern_eight text_eight ≡ (1 ∷ 2 ∷ 4 ∷ []) ∷ []
unfolding pattern_eight text_eight pattern_of one_word forest tree gather places branches only stands takes member distance width next_end horizon limit least
hits_eight = occurrences_each pattern_eight (plain pattern_eight text_eight) (lit≤ tt) (lit≤ tt)

eight : Results pattern_eight text_eight
    ((1 ∷ 2 ∷ 4 ∷ []) ∷ [])
    ((1 ∷ 2 ∷ 4 ∷ []) ∷ [])
    ((1 ∷ 2 ∷ 4 ∷ []) ∷ [])
    1 1
unfolding pattern_eight text_eight pattern_of one_word input_verdict pattern_verdict limits_verdict slots_verdict slot_verdict span_verdict rises member follow onward earliest_of latest_of extreme nearest select keep before each meet join
eight = results hits_eight refl refl refl refl refl

two_not : Occurs pattern_two text_one (6 ∷ 7 ∷ 8 ∷ []) → ⊥
unfolding pattern_two text_one pattern_of one_word occurs_in word_in place_fits_in gap gap_fits span within each takes member
two_not o = true≢false (sym ((occurs_iff pattern_two (plain pattern_two text_one) (6 ∷ 7 ∷ 8 ∷ [])).1 o))

nowhere : (f : Pattern) → 1 ≤ f.count → (r : List ℕ) → Occurs f [] r → ⊥
nowhere f some r o = omega (arith, (o.word 0 some).inside)

nine : (f : Pattern) → Accepted f → Nothing f
unfolding follow forest gather places
nine f a =
    let some = a.some in
    record {
      forward = λ marks. (earliest_none f (plain f []) some marks).1 (λ s o p. nowhere f some s o);
      backward = λ marks. (latest_none f (plain f []) some marks).1 (λ s o p. nowhere f some s o);
      results = results (occurrences_each f (plain f []) some a.least) ((input-accepted f 0).1 (record { pattern = a; short = lit≤ tt })) refl refl refl refl;
    }

pub nine_texts : NineTexts
nine_texts = record {
  one = one;
  two = two;
  two_not = two_not;
  three = three;
  four = four;
  five = five;
  six = six;
  seven = seven;
  eight = eight;
  nine = nine;
}

-- demand 3 of each of them: the lists that document 01 gives are largest, and bound every other nonoverlapping set
pub results-largest : {f : Pattern} {t : List ℕ} {hits front back : List (List ℕ)} {count tally : ℕ}
    → Results f t hits front back count tally → Largest f t front back
results-largest r = rw (← r.front-list, ← r.back_list) (largest r.accepted)
