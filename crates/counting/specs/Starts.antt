-- How many occurrences start at each word (document 02, Job 7).
use Rattle.std.specs.Prelude.{ℕ, List, map, length}
use Rattle.pattern.specs.declared.Pattern.{Pattern}
use Rattle.matching.specs.Occurrences.{places, occurrences, starting_at}

-- how many occurrences have the place p as their first
abbrev pub starts_at : Pattern → List ℕ → ℕ → ℕ
starts_at f t p = length (starting_at p (occurrences f t))

-- the column: this number for each word of the text
unfoldable pub column : Pattern → List ℕ → List ℕ
column f t = map (starts_at f t) (places 1 (length t))
