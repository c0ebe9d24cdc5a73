-- Which bytes are refused as an expression, and by which number.
use Rattle.std.specs.Prelude.{ℕ, ◌≤◌, ◌<◌, List, length}
use Rattle.classes.specs.Trees.{Tree}
use Rattle.classes.specs.Grammar.{Grammar, alternative}

-- 20, 21, or the reading of an expression within the limits
pub data Judgement : Type 0 where
  not_expression : Judgement
  too_deep : Judgement
  read_as : Tree → Judgement

-- the bytes are no expression
abbrev pub Ungrammatical : List ℕ → Type 0
Ungrammatical s = (t : Tree) (d : ℕ) → Grammar alternative s t d → ⊥

-- all bytes have exactly one judgement (Laws/Judging)
pub data Judged (s : List ℕ) : Judgement → Type 0 where
  too_long : 200 < length s → Judged s not_expression
  ungrammatical : Ungrammatical s → Judged s not_expression
  nested : {t : Tree} {d : ℕ} → length s ≤ 200 → Grammar alternative s t d → 8 < d → Judged s too_deep
  accepted : {t : Tree} {d : ℕ} → length s ≤ 200 → Grammar alternative s t d → d ≤ 8 → Judged s (read_as t)
