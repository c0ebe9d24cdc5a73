-- What the promise of recoding comes to: it leaves one answer and one list; 20 and 21 come exactly where their rows apply; a call that
-- breaks no limit writes the text by the one reading of its expression.
use Rattle.std.specs.Prelude.{ℕ, ◌≤◌, ◌<◌, ◌≡◌, refl, ◌↔◌, ◌⊎◌, Bool, true, false, not, List, length, ltb, eqb, Result, Ok, Err}
use Rattle.std.proofs.Common.{arith, sym, ◌∙◌, ap, subst, le-ltb, ltb-false, eq-eqb, ne_eqb, eqb-true}
use Rattle.std.proofs.lemmas.Bool.{eqb-false, not-false}
use Rattle.basics.specs.Written.{over}
use Rattle.pattern.specs.declared.refusal.Refusal.{Refusal}
use Rattle.pattern.specs.declared.refusal.Refusal.TheVariants.{ZeroWord, TextLength, ListLength, UnequalLengths}
use Rattle.pattern.specs.Refusals.{number_of}
use Rattle.pattern.specs.Tests.{refuse, and_then}
use Rattle.classes.specs.Trees.{Tree}
use Rattle.classes.specs.Grammar.{Grammar, alternative}
use Rattle.classes.specs.Judgements.{Judgement, not_expression, too_deep, read_as, Ungrammatical, Judged}
use Rattle.classes.specs.Recoding.{recoded_words, recoded_text, judgement_verdict, recode_verdict, answered, listed_by, Recodes}
use Rattle.classes.specs.Laws.Judging.{judged_once, not_refused, judged_20, Deep, judged_21}

-- the refusal's number, 0 where nothing is refused
abbrev pub refusal_number : Result ℕ Refusal → ℕ
refusal_number (Ok n) = 0
refusal_number (Err why) = number_of why

-- the tests before the expression's accept: 6, 22 and 3
pub record Fine (text classes : List ℕ) (code : ℕ) : Type 0 where
  pub short : length text ≤ 20000
  pub equal : length text ≡ length classes
  pub coded : code ≡ 0 → ⊥

-- then the judgement and the list's room decide
pub after_fine : {text classes : List ℕ} {code : ℕ} (j : Judgement) (out : List ℕ) → Fine text classes code
    → recode_verdict text classes code j out ≡ and_then (judgement_verdict j) (refuse (ltb (length out) (length text)) (ListLength 0) (Ok tt))
after_fine {text} {classes} {code} j out f =
    simp (le-ltb 20000 (length text) f.short, eq-eqb (length text) (length classes) f.equal, ne_eqb code 0 f.coded)

-- the number that a judgement refuses with
abbrev judgement_number : Judgement → ℕ
judgement_number not_expression = 20
judgement_number too_deep = 21
judgement_number (read_as t) = 0

is_20 : (j : Judgement) → judgement_number j ≡ 20 → j ≡ not_expression
is_20 not_expression e = refl
is_20 too_deep e = absurd (omega arith)
is_20 (read_as t) e = absurd (omega arith)

is_21 : (j : Judgement) → judgement_number j ≡ 21 → j ≡ too_deep
is_21 not_expression e = absurd (omega arith)
is_21 too_deep e = refl
is_21 (read_as t) e = absurd (omega arith)

-- 20 and 21 come from the judgement, after the tests before it have passed
from-judgement : (x y z w : Bool) (j : Judgement) (n k : ℕ) → 20 ≤ k → k ≤ 21
    → refusal_number (answered (refuse x TextLength (refuse y UnequalLengths (refuse z (ZeroWord 0) (and_then (judgement_verdict j) (refuse w (ListLength 0) (Ok tt)))))) n) ≡ k
    → ((x ≡ false) × (y ≡ false) × (z ≡ false)) × (judgement_number j ≡ k)
from-judgement true y z w j n k h l e = absurd (omega arith)
from-judgement false true z w j n k h l e = absurd (omega arith)
from-judgement false false true w j n k h l e = absurd (omega arith)
from-judgement false false false w not_expression n k h l e = ((refl, refl, refl), e)
from-judgement false false false w too_deep n k h l e = ((refl, refl, refl), e)
from-judgement false false false true (read_as t) n k h l e = absurd (omega arith)
from-judgement false false false false (read_as t) n k h l e = absurd (omega arith)

module _ {text classes s : List ℕ} {code : ℕ} {out : List ℕ} where
  -- ---- one answer and one list

  pub one_answer : {r r' : Result ℕ Refusal} {after after' : List ℕ} → Recodes text classes s code out r after → Recodes text classes s code out r' after' → (r ≡ r') × (after ≡ after')
  one_answer p q =
      let e = judged_once p.judged q.judged in (
        p.answer ∙ ap (λ (j : Judgement). answered (recode_verdict text classes code j out) (length text)) e ∙ sym q.answer,
        p.content ∙ ap (λ (j : Judgement). listed_by (recode_verdict text classes code j out) out (recoded_text j code text classes)) e ∙ sym q.content,
      )

  module _ {r : Result ℕ Refusal} {after : List ℕ} (p : Recodes text classes s code out r after) where
    -- ---- where 20 and 21 come

    -- 20 and 21 are the judgement's
    judged_by_lem : (k : ℕ) → 20 ≤ k → k ≤ 21 → refusal_number r ≡ k → Fine text classes code × (judgement_number p.judgement ≡ k)
    judged_by_lem k h l e =
        let d = from-judgement (ltb 20000 (length text)) (not (eqb (length text) (length classes))) (eqb code 0) (ltb (length out) (length text)) p.judgement (length text) k h l (sym (ap refusal_number p.answer) ∙ e) in (
          record {
            short = ltb-false 20000 (length text) d.0.0;
            equal = eqb-true (length text) (length classes) (not-false (eqb (length text) (length classes)) d.0.1);
            coded = eqb-false code 0 d.0.2;
          },
          d.1,
        )

    -- once those tests have passed, a judgement that refuses gives its number
    given_by : {j : Judgement} (k : ℕ) → Fine text classes code → Judged s j
        → ((n : ℕ) → refusal_number (answered (and_then (judgement_verdict j) (refuse (ltb (length out) (length text)) (ListLength 0) (Ok tt))) n) ≡ k) → refusal_number r ≡ k
    given_by {j} k f q h = ap refusal_number p.answer ∙ simp (judged_once p.judged q, after_fine j out f) (h (length text))

    -- 20: the tests before it have passed, and the bytes are not of the grammar or too long
    pub gives_20 : (refusal_number r ≡ 20) ↔ (Fine text classes code × ((200 < length s) ⊎ Ungrammatical s))
    gives_20 = (
      λ e.
          let d = judged_by_lem 20 (omega arith) (omega arith) e in
          (d.0, judged_20.0 (subst (λ (j : Judgement). Judged s j) (is_20 p.judgement d.1) p.judged)),
      λ h. given_by 20 h.0 (judged_20.1 h.1) (λ n. refl),
    )

    -- 21: the tests before it have passed, and the bytes are of the grammar, not too long, and deeper than 8
    pub gives_21 : (refusal_number r ≡ 21) ↔ (Fine text classes code × Deep s)
    gives_21 = (
      λ e.
          let d = judged_by_lem 21 (omega arith) (omega arith) e in
          (d.0, judged_21.0 (subst (λ (j : Judgement). Judged s j) (is_21 p.judgement d.1) p.judged)),
      λ h. given_by 21 h.0 (judged_21.1 h.1) (λ n. refl),
    )

    -- ---- an expression of the grammar that is at most 200 bytes long and at most 8 deep

    module _ {t : Tree} {d : ℕ} (g : Grammar alternative s t d) (within : length s ≤ 200) (flat : d ≤ 8) where
      -- 20 and 21 are not given for it
      pub not_20_21 : (refusal_number r ≡ 20 → ⊥) × (refusal_number r ≡ 21 → ⊥)
      not_20_21 =
          let j = ap judgement_number (not_refused g within flat p.judged) in
          (λ e. omega (arith, (judged_by_lem 20 (omega arith) (omega arith) e).1), λ e. omega (arith, (judged_by_lem 21 (omega arith) (omega arith) e).1))

      -- a call that breaks no limit answers how many words, and writes the text recoded by the reading
      pub good_call : Fine text classes code → length text ≤ length out → (r ≡ Ok (length text)) × (after ≡ over out (recoded_words t code text classes))
      good_call f l =
          let j = not_refused g within flat p.judged in
          let a = after_fine (read_as t) out f ∙ ap (λ (b : Bool). refuse b (ListLength 0) (Ok tt)) (le-ltb (length out) (length text) l) in
          (p.answer ∙ simp (j, a), p.content ∙ simp (j, a))
