-- Definition 6 of document 004: a nonoverlapping set of occurrences (document 01: harvest), as a list of its rows.
use Rattle.std.specs.Prelude.{ℕ, List}
use Rattle.pattern.specs.declared.Pattern.{Pattern}
use Rattle.matching.specs.Occurrence.{View, plain, OccursIn, Apart}
use Rattle.basics.specs.Collections.{Every, Pairwise}

-- each is an occurrence, and every two are apart
pub record NonoverlappingIn (f : Pattern) (v : View) (H : List (List ℕ)) : Type 0 where
  pub occur : Every (OccursIn f v) H
  pub apart : Pairwise (Apart f.count) H

-- in a text
abbrev pub Nonoverlapping : Pattern → List ℕ → List (List ℕ) → Type 0
Nonoverlapping f t H = NonoverlappingIn f (plain f t) H
