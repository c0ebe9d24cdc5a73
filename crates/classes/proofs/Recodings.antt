-- Why the refusals of `recode` are right that are given before the expression is judged: the tests before each have passed, and its own
-- applies. Assumes nothing.
use Rattle.std.proofs.Common.{◌≡◌, ℕ, ◌<◌, ◌≤◌, List, length, le-ltb, lt-ltb, eq-eqb, ne_eqb, Err}
use Rattle.pattern.specs.declared.refusal.Refusal.TheVariants.{ZeroWord, TextLength, UnequalLengths}
use Rattle.classes.specs.Recoding.{Recodes}
use Rattle.classes.specs.Laws.Judging.{judgement_of}

module _ {text classes s : List ℕ} {code : ℕ} {out : List ℕ} where
  -- 6
  pub long_text : 20000 < length text → Recodes text classes s code out (Err TextLength) out
  long_text h =
      let a = lt-ltb 20000 (length text) h in
      record { judgement = (judgement_of s).0; judged = (judgement_of s).1; answer = simp a; content = simp a }

  -- 22
  pub unequal : length text ≤ 20000 → (length text ≡ length classes → ⊥) → Recodes text classes s code out (Err UnequalLengths) out
  unequal h k =
      let a = le-ltb 20000 (length text) h in
      let b = ne_eqb (length text) (length classes) k in
      record { judgement = (judgement_of s).0; judged = (judgement_of s).1; answer = simp (a, b); content = simp (a, b) }

  -- 3
  pub zero_code : length text ≤ 20000 → length text ≡ length classes → code ≡ 0 → Recodes text classes s code out (Err (ZeroWord 0)) out
  zero_code h k z =
      let a = le-ltb 20000 (length text) h in
      let b = eq-eqb (length text) (length classes) k in
      let c = eq-eqb code 0 z in
      record { judgement = (judgement_of s).0; judged = (judgement_of s).1; answer = simp (a, b, c); content = simp (a, b, c) }

pub ruleset refusals = (long_text, unequal, zero_code)
