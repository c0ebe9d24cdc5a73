-- The first line of some bytes, with the bytes after it: closed, or left open.
use Rattle.std.specs.Prelude.{ℕ, ◌+◌, ◌<◌, List, [], ◌∷◌, false, ◌≡◌, length, Result, Ok, Err}
use Rattle.pattern.specs.declared.refusal.Refusal.{Refusal}
use Rattle.pattern.specs.declared.refusal.Refusal.TheVariants.{Values}
use Rattle.format.specs.Bytes.{lines, ended}
use Rattle.format.specs.Layouts.{Layout}

-- the first line is closed: its bytes, and those after it
pub record ClosedLine (s l rest : List ℕ) : Type 0 where
  pub first : lines s ≡ l ∷ lines rest
  pub last : ended s 10 ≡ ended rest 10
  pub shorter : length rest < length s

-- it is left open, or there is none
pub record OpenLine (s : List ℕ) : Type 0 where
  pub none : lines s ≡ []
  pub unended : 0 < length s → ended s 10 ≡ false

-- what a layout of lines answers, the first of which is line `first` of the file
abbrev pub laid : ℕ → Layout → Result ℕ Refusal
laid first (Ok n) = Ok n
laid first (Err n) = Err (Values (n + first))
