-- Where nothing is refused, the test of a row answers by the four conditions of an occurrence, in their order.
use Rattle.std.specs.Prelude.{ℕ, ◌≡◌, Bool, true, false, ◌&&◌, List, [], ◌∷◌, length, Result, Ok}
use Rattle.std.proofs.Common.{eq-eqb}
use Rattle.pattern.specs.declared.Pattern.{Pattern}
use Rattle.matching.specs.Occurrences.{word, gap, span, sentence, occurs_in}
use Rattle.matching.specs.Answers.{row_verdict}
use Rattle.matching.specs.ConditionTexts.{pattern-conditions, text-conditions, Conditions}
use Rattle.matching.proofs.Laws.ConditionTexts.{condition_texts}
use Rattle.matching.proofs.Laws.Ready.{row-accepted}
use Rattle.pattern.specs.declared.refusal.Refusal.{Refusal}
use Rattle.excerpts.specs.Answers.{is_occurrence}

pub tested : (f : Pattern) (t row : List ℕ) → row_verdict f t row ≡ Ok tt
    → is_occurrence f t row ≡ Ok (word f t row && gap f row && span f row && sentence f t row)
unfolding occurs_in
tested f t row e = rw (e, eq-eqb (length row) f.count (row-accepted {f = f} {t = t} {row = row} e).size)

-- so what the four say of a row decides it
pub conditions-tested : {f : Pattern} {t row : List ℕ} {word_holds gap_holds span_holds sentence_holds : Bool} → Conditions f t row word_holds gap_holds span_holds sentence_holds
    → is_occurrence f t row ≡ Ok (word_holds && gap_holds && span_holds && sentence_holds)
conditions-tested {f} {t} {row} c = rw (tested f t row c.accepted, c.word_is, c.gap_is, c.span_is, c.sentence_is)

-- the answer for a row of the worked text
abbrev answer : List ℕ → Result Bool Refusal
answer row = is_occurrence pattern-conditions text-conditions row

-- all four hold of the first row, and the others fail the word, the gap, the span and the sentence alone
pub rows-tested : (answer (1 ∷ 4 ∷ []) ≡ Ok true) × (answer (1 ∷ 3 ∷ []) ≡ Ok false) × (answer (1 ∷ 2 ∷ []) ≡ Ok false) × (answer (1 ∷ 5 ∷ []) ≡ Ok false) × (answer (6 ∷ 8 ∷ []) ≡ Ok false)
rows-tested = (
  conditions-tested condition_texts.all_hold,
  conditions-tested condition_texts.word_alone,
  conditions-tested condition_texts.gap_alone,
  conditions-tested condition_texts.span_alone,
  conditions-tested condition_texts.sentence_alone,
)
