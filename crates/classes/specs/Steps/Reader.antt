-- A reader of expressions, byte by byte, which the functions that read are held to. That it finds exactly what the grammar has is a law
-- (Laws/Complete, Laws/Sound).
use Rattle.std.specs.Prelude.{ℕ, zero, suc, ◌-◌, max, List, [], ◌∷◌, eqb, leb}
use Rattle.basics.specs.Choice.{pick}
use Rattle.classes.specs.Trees.{Tree, letter, negation, both, either}

-- what stands to the left of an operator that waits for its right side, with its depth, or nothing
pub data Left : Type 0 where
  nothing : Left
  part : Tree → ℕ → Left

-- the open brackets: before each so many `!`, after a left side of `|` and one of `&`
pub data Outer : Type 0 where
  whole : Outer
  bracket : ℕ → Left → Left → Outer → Outer

-- a factor is wanted, after so many `!`, a left side of `|` and one of `&`; or a conjunction was read, after a left side of `|`; or no expression starts so
pub data State : Type 0 where
  wants : ℕ → Left → Left → Outer → State
  has : Left → Tree → ℕ → Outer → State
  stuck : State

-- the tree after a left side of `&`
abbrev pub and_tree : Left → Tree → Tree
and_tree nothing t = t
and_tree (part u e) t = both u t

-- the tree after a left side of `|`
abbrev pub or_tree : Left → Tree → Tree
or_tree nothing t = t
or_tree (part u e) t = either u t

-- the depth after a left side
abbrev pub deepest : Left → ℕ → ℕ
deepest nothing d = d
deepest (part u e) d = max e d

-- the tree after so many `!`
abbrev pub negated : ℕ → Tree → Tree
negated zero t = t
negated (suc n) t = negated n (negation t)

-- the wanted factor was read
abbrev pub given : ℕ → Left → Left → Tree → ℕ → Outer → State
given n l m t d o = has l (and_tree m (negated n t)) (deepest m d) o

-- a bracket is closed
abbrev pub closed : Outer → Tree → ℕ → State
closed whole t d = stuck
closed (bracket n l m o) t d = given n l m t (suc d) o

-- one byte more
unfoldable pub step : State → ℕ → State
step (wants n l m o) b =
    pick (eqb b 33) (wants (suc n) l m o)
    (pick (eqb b 40) (wants 0 nothing nothing (bracket n l m o))
    (pick (leb 97 b) (pick (leb b 104) (given n l m (letter (b - 97)) 0 o) stuck) stuck))
step (has l t d o) b =
    pick (eqb b 38) (wants 0 l (part t d) o)
    (pick (eqb b 124) (wants 0 (part (or_tree l t) (deepest l d)) nothing o)
    (pick (eqb b 41) (closed o (or_tree l t) (deepest l d)) stuck))
step stuck b = stuck

-- what bytes are read as
pub data Reading : Type 0 where
  wrong : Reading
  expression : Tree → ℕ → Reading

-- what a state comes to at the end of the bytes
abbrev pub finished : State → Reading
finished (wants n l m o) = wrong
finished (has l t d whole) = expression (or_tree l t) (deepest l d)
finished (has l t d (bracket n l' m o)) = wrong
finished stuck = wrong

-- what bytes come to from a state on
unfoldable pub ending : List ℕ → State → Reading
ending [] st = finished st
ending (b ∷ s) st = ending s (step st b)

abbrev pub reading : List ℕ → Reading
reading s = ending s (wants 0 nothing nothing whole)
