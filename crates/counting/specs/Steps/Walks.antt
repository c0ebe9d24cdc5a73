-- Writing rows into a list by walking down the slots, from any table of rows.
use Rattle.std.specs.Prelude.{◌≡◌, ℕ, suc, ◌+◌, ◌-◌, ◌*◌, ◌<◌, ◌≤◌, List, [], ◌∷◌, ◌++◌, map, length, take, ◌≢◌, slice_index}
use Rattle.std.proofs.Math.Seq.{paste}
use Rattle.basics.specs.Sums.{gather}
use Rattle.matching.specs.Occurrences.{places}
use Rattle.counting.specs.declared.walk.Trail.{Trail}
use Rattle.counting.specs.Steps.Plans.{gap_at}
use Rattle.counting.specs.Steps.Tables.{NextRows}

-- the rows that start at an index from x to y - 1
unfoldable pub run : (ℕ → List (List ℕ)) → ℕ → ℕ → List (List ℕ)
run g x y = gather g (places x (y - x))

-- rows of m places over the rows number a, a + 1, .. of a list, counted from 0
unfoldable pub put : ℕ → ℕ → List (List ℕ) → List ℕ → List ℕ
put m a [] l = l
put m a (r ∷ R) l = put m (suc a) R (paste l (a * m) r m)

-- the table and the gaps lead through the rows G: slot j with n j indexes, the first at the place first + 1
pub record Leads (t : Trail) (n : ℕ → ℕ) (G : ℕ → ℕ → List (List ℕ)) : Type 0 where
  pub few : t.tables.slots ≤ 16
  pub inside : (j : ℕ) → j < t.tables.slots → t.first + n j ≤ 20000
  pub next : (j : ℕ) → j < t.tables.slots → (i : ℕ) → i ≤ n j → NextRows (G j) (n j) i (slice_index t.next.now (j * 20001 + i))
  pub last : (j : ℕ) → j + 1 ≡ t.tables.slots → (x : ℕ) → (G j x ≢ []) → G j x ≡ ((t.first + x + 1) ∷ []) ∷ []
  pub step : (j : ℕ) → j + 1 < t.tables.slots → (x : ℕ) → (G j x ≢ [])
      → G j x ≡ map (λ r. (t.first + x + 1) ∷ r) (run (G (j + 1)) (x + (gap_at t.tables.outline.gaps (j + 1)).low + 1) (x + (gap_at t.tables.outline.gaps (j + 1)).high + 1 + 1))
  pub child : (j : ℕ) → j + 1 < t.tables.slots → (x : ℕ) → (G j x ≢ []) → x + (gap_at t.tables.outline.gaps (j + 1)).low + 1 ≤ n (j + 1)
  pub gap : (j : ℕ) → j + 1 < t.tables.slots
      → ((gap_at t.tables.outline.gaps (j + 1)).low ≤ (gap_at t.tables.outline.gaps (j + 1)).high) × ((gap_at t.tables.outline.gaps (j + 1)).high ≤ 63)

-- what a walk over the indexes x to y of slot j is given: rows that the table leads through, and room for them past the rows done
pub record Walk (t : Trail) (j x y done space : ℕ) : Type 0 where
  pub n : ℕ → ℕ
  pub rows : ℕ → ℕ → List (List ℕ)
  pub leads : Leads t n rows
  pub slot : j < t.tables.slots
  pub start : x ≤ n j
  pub order : x ≤ y + 1
  pub near : y ≤ 20064
  pub room : ℕ
  pub fits : done + length (run (rows j) x (y + 1)) ≤ room
  pub wide : room * t.tables.slots ≤ space

-- what it does: the rows stand past those done, each with the places of the row before it
pub record Walked {t : Trail} {j x y done space : ℕ} (w : Walk t j x y done space) (row l : List ℕ) (r : ℕ) (l' : List ℕ) : Type 0 where
  pub number : r ≡ done + length (run (w.rows j) x (y + 1))
  pub list : l' ≡ put t.tables.slots done (map (λ s. take j row ++ s) (run (w.rows j) x (y + 1))) l
