-- Definition 5 of document 004, of the occurrences past some marks or before them: the two searches (document 01: forward and backward).
-- Marks have any value.
use Rattle.std.specs.Prelude.{ℕ, List, [], ◌∷◌}
use Rattle.std.proofs.Math.Option.{Option, none, some}
use Rattle.pattern.specs.declared.Pattern.{Pattern}
use Rattle.matching.specs.Occurrence.{View, plain, OccursIn}
use Rattle.basics.specs.Collections.{select}
use Rattle.matching.specs.Occurrences.{occurrences_in}
use Rattle.matching.specs.Rows.{before, Before, NotAfter, After, NotBefore, meet, join}

-- at each slot the place that `near` prefers among the rows r and R
unfoldable pub nearest : (List ℕ → List ℕ → List ℕ) → List ℕ → List (List ℕ) → List ℕ
nearest near r [] = r
nearest near r (s ∷ R) = near r (nearest near s R)

-- the same of any list of rows, if it has one
unfoldable pub extreme : (List ℕ → List ℕ → List ℕ) → List (List ℕ) → Option (List ℕ)
extreme near [] = none
extreme near (r ∷ R) = some (nearest near r R)

-- the earliest of the rows R of m places with each place past its mark
unfoldable pub earliest_of : ℕ → List (List ℕ) → List ℕ → Option (List ℕ)
earliest_of m R marks = extreme meet (select (λ r. before m marks r) R)

-- the latest with each place before its mark
unfoldable pub latest_of : ℕ → List (List ℕ) → List ℕ → Option (List ℕ)
latest_of m R marks = extreme join (select (λ r. before m r marks) R)

-- the forward search: the minimal occurrence of those past the marks, which is earliest at every slot, or none
abbrev pub earliest_in : Pattern → View → List ℕ → Option (List ℕ)
earliest_in f v marks = earliest_of f.count (occurrences_in f v) marks

-- the forward search in a text (document 01: forward)
abbrev pub earliest : Pattern → List ℕ → List ℕ → Option (List ℕ)
earliest f t marks = earliest_in f (plain f t) marks

-- the backward search: the maximal occurrence of those before the marks, which is latest at every slot, or none
abbrev pub latest_in : Pattern → View → List ℕ → Option (List ℕ)
latest_in f v marks = latest_of f.count (occurrences_in f v) marks

-- the backward search in a text (document 01: backward)
abbrev pub latest : Pattern → List ℕ → List ℕ → Option (List ℕ)
latest f t marks = latest_in f (plain f t) marks

-- ---- what a found row is; `Laws/Extremes` proves that the searches find just these

module _ (Hit : List ℕ → Type 0) (◌≺◌ ◌≼◌ : List ℕ → List ℕ → Type 0) where
  infix 40 ◌≺◌
  infix 40 ◌≼◌
  -- of the rows with `Hit`, r is past the marks, and no such row is nearer at any slot
  pub record Nearest (marks r : List ℕ) : Type 0 where
    pub hit : Hit r
    pub past : marks ≺ r
    pub least : (s : List ℕ) → Hit s → marks ≺ s → r ≼ s

-- the occurrence past the marks that is earliest at every slot
abbrev pub EarliestIn : Pattern → View → List ℕ → List ℕ → Type 0
EarliestIn f v = Nearest (OccursIn f v) (Before f.count) (NotAfter f.count)

-- the same in a text
abbrev pub Earliest : Pattern → List ℕ → List ℕ → List ℕ → Type 0
Earliest f t = EarliestIn f (plain f t)

-- the occurrence before the marks that is latest at every slot
abbrev pub LatestIn : Pattern → View → List ℕ → List ℕ → Type 0
LatestIn f v = Nearest (OccursIn f v) (After f.count) (NotBefore f.count)
