-- What the functions that write all occurrences are given, with room for the rows in a list of `space` places.
use Rattle.std.specs.Prelude.{◌≡◌, ℕ, ◌+◌, ◌*◌, ◌≤◌, List, length}
use Rattle.counting.specs.declared.tables.Tables.{Tables}
use Rattle.counting.specs.declared.window.Window.{Window}
use Rattle.counting.specs.Steps.Plans.{Plan, plan_pattern, plan_view, plan_rows, Within}
use Rattle.counting.specs.Steps.Tables.{rows_at}
use Rattle.counting.specs.Steps.Walks.{run, put}

-- for all of them
pub record Put (t : Tables) (space : ℕ) : Type 0 where
  pub plan : Plan t
  pub room : length (plan_rows plan) * t.slots ≤ space

-- the rows that start in a window
abbrev pub window_rows : {t : Tables} → Plan t → Window → List (List ℕ)
window_rows g w = run (rows_at (plan_pattern g) (plan_view g) w 0) 0 w.starts

-- for those, past the rows done
pub record PutWindow (t : Tables) (w : Window) (done space : ℕ) : Type 0 where
  pub plan : Plan t
  pub within : Within t.places w
  pub some : 1 ≤ w.starts
  pub room : ℕ
  pub fits : done + length (window_rows plan w) ≤ room
  pub wide : room * t.slots ≤ space

-- what is done: the rows stand past those done
pub record WindowPut {t : Tables} {w : Window} {done space : ℕ} (g : PutWindow t w done space) (l : List ℕ) (r : ℕ) (l' : List ℕ) : Type 0 where
  pub number : r ≡ done + length (window_rows g.plan w)
  pub list : l' ≡ put t.slots done (window_rows g.plan w) l
