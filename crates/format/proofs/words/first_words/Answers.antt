-- The numbers past the mark are the words.
use Rattle.std.proofs.Common.{ℕ, List, map, ◌∙◌, ap}
use Rattle.pattern.specs.Patterns.{padded}
use Rattle.format.specs.Bytes.{parts, value}
use Rattle.format.proofs.WordSteps.{padded-words}
use Rattle.format.proofs.words.first_words.Goals as goal

pub returns : goal.returns
returns c = c.first_numbers.ensures ∙ ap (λ (l : List ℕ). padded (map value (parts l 44))) c.unmarked.ensures ∙ padded-words c.args.s.now
