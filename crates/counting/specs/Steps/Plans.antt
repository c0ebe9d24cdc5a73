-- A pattern and a view of a text as the runs are handed them: in tables.
use Rattle.std.specs.Prelude.{◌≡◌, ℕ, ◌+◌, ◌-◌, ◌<◌, ◌≤◌, min, Bool, ◌&&◌, List, length, nat_le, get_or}
use Rattle.pattern.specs.declared.slot.Slot.{Slot}
use Rattle.pattern.specs.declared.Pattern.{Pattern}
use Rattle.pattern.specs.Patterns.{slot_at}
use Rattle.matching.specs.Occurrence.{View}
use Rattle.matching.specs.Occurrences.{occurrences_in}
use Rattle.matching.specs.Spans.{near, far, width}
use Rattle.counting.specs.declared.gaps.Gap.{Gap}
use Rattle.counting.specs.declared.gaps.Outline.{Outline}
use Rattle.counting.specs.declared.tables.Tables.{Tables}
use Rattle.counting.specs.declared.window.Window.{Window}
use Rattle.counting.specs.Steps.Inputs.{Input}
use Rattle.counting.specs.Steps.Fits.{Fitted}
use Rattle.counting.specs.Steps.Sentences.{Horizons}

-- what stands at an index of an array of gaps
abbrev pub gap_at : List Gap → ℕ → Gap
gap_at G j = get_or G j (record { low = 0; high = 0 })

-- the gap before each slot
pub record Gaps (f : Pattern) (G : List Gap) : Type 0 where
  pub long : length G ≡ 16
  pub low : (j : ℕ) → j < f.count → (gap_at G j).low ≡ (slot_at f j).low
  pub high : (j : ℕ) → j < f.count → (gap_at G j).high ≡ (slot_at f j).high

-- the span limits cannot bind: no row within the gaps is too short, and none of n places too long
unfoldable pub unbound : Pattern → ℕ → Bool
unbound f n = nat_le f.least (near f (f.count - 1) + 1) && nat_le (min (far f (f.count - 1) + 1) n) f.most

-- what the runs over n places are handed of a pattern
pub record Outlined (f : Pattern) (n : ℕ) (o : Outline) : Type 0 where
  pub gaps : Gaps f o.gaps
  pub farthest : o.reach ≡ far f (f.count - 1)
  pub widest : o.span ≡ width f
  pub shortest : o.least ≡ f.least
  pub spans : o.unbound ≡ unbound f n

-- an accepted pattern and a view: the tables are theirs
pub record Handed (f : Pattern) (v : View) (t : Tables) : Type 0 where
  pub input : Input f v
  pub outlined : Outlined f v.places t.outline
  pub table : Fitted f v t.fits.now
  pub horizons : Horizons v t.lasts.now

-- ---- where a function is handed the tables alone, of some pattern and some view

-- some pattern of so many slots, and some view of so many places
pub record Plan (t : Tables) : Type 0 where
  pub slots : List Slot
  pub least : ℕ
  pub most : ℕ
  pub fits : ℕ → ℕ → Bool
  pub ends : ℕ → Bool
  pub handed : Handed (record { slots = slots; count = t.slots; least = least; most = most }) (record { places = t.places; fits = fits; ends = ends }) t

module _ {t : Tables} (g : Plan t) where
  -- that pattern
  abbrev pub plan_pattern : Pattern
  plan_pattern = record { slots = g.slots; count = t.slots; least = g.least; most = g.most }

  -- that view
  abbrev pub plan_view : View
  plan_view = record { places = t.places; fits = g.fits; ends = g.ends }

  -- all occurrences of the pattern in the view
  abbrev pub plan_rows : List (List ℕ)
  plan_rows = occurrences_in plan_pattern plan_view

-- tables that are those of a pattern and a view
pub record PlanOf (f : Pattern) (v : View) (t : Tables) : Type 0 where
  pub plan : Plan t
  pub pattern : plan_pattern plan ≡ f
  pub view : plan_view plan ≡ v

-- ---- the windows

-- a window lies in n places
pub record Within (n : ℕ) (w : Window) : Type 0 where
  pub inside : w.first + w.places ≤ n
  pub starts : w.starts ≤ w.places

-- the places from the index i on to the end of the sentence
abbrev pub sentence_at : ℕ → ℕ → Window
sentence_at i e = record { first = i; places = e - i; starts = e - i; from = 0 }

-- the places that a row can span which starts at index i
abbrev pub start_at : ℕ → ℕ → ℕ → Window
start_at i k from = record { first = i; places = k; starts = 1; from = from }
