-- What src/expressions.rt answers of bytes.
use Rattle.std.specs.Prelude.{ℕ, List, length, ltb, Option, Some, None, Result, Ok, Err}
use Rattle.basics.specs.Choice.{pick}
use Rattle.pattern.specs.declared.refusal.Refusal.{Refusal}
use Rattle.pattern.specs.declared.refusal.Refusal.TheVariants.{NotExpression, TooDeep}
use Rattle.classes.specs.Trees.{Tree}
use Rattle.classes.specs.Judgements.{Judged, not_expression, too_deep, read_as}
use Rattle.classes.specs.Steps.Sets.{numbers, MetBy}
use Rattle.classes.specs.declared.sets.ClassSet.{ClassSet}
use Rattle.classes.specs.declared.reader.Part.{Part}

-- the part that the bytes start with is all of them
abbrev pub whole_part : List ℕ → Option Part → Result ClassSet Refusal
whole_part s (Some p) = pick (ltb p.end (length s)) (Err NotExpression) (pick p.fits (Ok p.set) (Err TooDeep))
whole_part s None = Err NotExpression

-- what the bytes are: none, one whose brackets are nested too deep, or one that these class bytes meet
pub data Judges (s : List ℕ) : Result ClassSet Refusal → Type 0 where
  is_wrong : Judged s not_expression → Judges s (Err NotExpression)
  is_deep : Judged s too_deep → Judges s (Err TooDeep)
  is_met : {t : Tree} {v : ClassSet} → Judged s (read_as t) → MetBy t (numbers v) → Judges s (Ok v)
