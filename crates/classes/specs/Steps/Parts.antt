-- What the readers of src/reader.rt answer of the part of an expression that starts at a place.
use Rattle.std.specs.Prelude.{ℕ, ◌+◌, ◌≤◌, ◌<◌, ◌≡◌, ◌&&◌, List, length, get_or, drop, ltb, leb, eqb, Option, Some, None}
use Rattle.basics.specs.Choice.{pick}
use Rattle.classes.specs.Trees.{Tree}
use Rattle.classes.specs.Steps.Reader.{Left, nothing, Outer, wants, has, given, wrong, ending}
use Rattle.classes.specs.Steps.Sets.{numbers, MetBy, complement, intersection, union}
use Rattle.classes.specs.declared.sets.ClassSet.{ClassSet}
use Rattle.classes.specs.declared.reader.Part.{Part}

-- ---- parts made of parts

-- what `!` makes of a factor
abbrev pub denied_part : Part → Part
denied_part p = record { end = p.end; set = complement p.set; fits = p.fits }

-- what `)` makes of an alternative after its `(`
abbrev pub closed_part : List ℕ → Part → ℕ → Option Part
closed_part s p room =
    pick (ltb p.end (length s))
    (pick (eqb (get_or s p.end 0) 41) (Some (record { end = p.end + 1; set = p.set; fits = ltb 0 room && p.fits })) None)
    None

-- where the right side of the operator after a part starts, if it stands there
abbrev pub operand : List ℕ → Option Part → ℕ → Option ℕ
operand s (Some p) operator = pick (ltb p.end (length s)) (pick (eqb (get_or s p.end 0) operator) (Some (p.end + 1)) None) None
operand s None operator = None

-- the two sides of an operator, which this set meets
abbrev pub joined : Part → Part → ClassSet → Part
joined p q v = record { end = q.end; set = v; fits = p.fits && q.fits }

-- the two sides of `&`
abbrev pub and_part : Part → Part → Part
and_part p q = joined p q (intersection p.set q.set)

-- the two sides of `|`
abbrev pub or_part : Part → Part → Part
or_part p q = joined p q (union p.set q.set)

-- ---- a factor: some tree of some depth, which the reader of Steps/Reader finds whatever stands before it

pub record FactorAt (s : List ℕ) (at room : ℕ) (p : Part) : Type 0 where
  pub later : at < p.end
  pub within : p.end ≤ length s
  pub tree : Tree
  pub depth : ℕ
  pub value : MetBy tree (numbers p.set)
  pub fits : leb depth room ≡ p.fits
  pub found : (n : ℕ) (l m : Left) (o : Outer) → ending (drop at s) (wants n l m o) ≡ ending (drop p.end s) (given n l m tree depth o)

pub data FactorRead (s : List ℕ) (at room : ℕ) : Option Part → Type 0 where
  factor_at : {p : Part} → FactorAt s at room p → FactorRead s at room (Some p)
  no_factor : ((n : ℕ) (l m : Left) (o : Outer) → ending (drop at s) (wants n l m o) ≡ wrong) → FactorRead s at room None

-- ---- factors with `&` between them, after a left side of `|`

pub record ConjunctionAt (s : List ℕ) (at room : ℕ) (p : Part) : Type 0 where
  pub later : at < p.end
  pub within : p.end ≤ length s
  pub tree : Tree
  pub depth : ℕ
  pub value : MetBy tree (numbers p.set)
  pub fits : leb depth room ≡ p.fits
  pub found : (l : Left) (o : Outer) → ending (drop at s) (wants 0 l nothing o) ≡ ending (drop p.end s) (has l tree depth o)

pub data ConjunctionRead (s : List ℕ) (at room : ℕ) : Option Part → Type 0 where
  conjunction_at : {p : Part} → ConjunctionAt s at room p → ConjunctionRead s at room (Some p)
  no_conjunction : ((l : Left) (o : Outer) → ending (drop at s) (wants 0 l nothing o) ≡ wrong) → ConjunctionRead s at room None

-- ---- conjunctions with `|` between them; no `&` follows

pub record AlternativeAt (s : List ℕ) (at room : ℕ) (p : Part) : Type 0 where
  pub later : at < p.end
  pub within : p.end ≤ length s
  pub ends : get_or s p.end 0 ≡ 38 → ⊥
  pub tree : Tree
  pub depth : ℕ
  pub value : MetBy tree (numbers p.set)
  pub fits : leb depth room ≡ p.fits
  pub found : (o : Outer) → ending (drop at s) (wants 0 nothing nothing o) ≡ ending (drop p.end s) (has nothing tree depth o)

pub data AlternativeRead (s : List ℕ) (at room : ℕ) : Option Part → Type 0 where
  alternative_at : {p : Part} → AlternativeAt s at room p → AlternativeRead s at room (Some p)
  no_alternative : ((o : Outer) → ending (drop at s) (wants 0 nothing nothing o) ≡ wrong) → AlternativeRead s at room None
