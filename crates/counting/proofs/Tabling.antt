-- The table of a window: where the entries say that a slot stands next, there are rows of that slot and the slots after it. Assumes nothing.
use Rattle.std.proofs.Common.{◌≡◌, ℕ, zero, suc, ◌+◌, ◌-◌, ◌*◌, ◌<◌, ◌≤◌, min, Bool, true, false, ◌&&◌, leb, List, [], ◌∷◌, map, length, get_or, sym, refl, ap, subst, ◌∙◌, true≢false, arith, le-ltb, leb-false, leb-true}
use native.Mathlib.Decide.{dec_le, ℕ_discrete}
use mathlib.Core.Bool.{and-eq-true_iff}
use Rattle.pattern.specs.declared.Pattern.{Pattern}
use Rattle.pattern.specs.Patterns.{slot_at}
use Rattle.matching.specs.Occurrence.{View}
use Rattle.matching.specs.Occurrences.{places}
use Rattle.basics.specs.Sums.{gather}
use Rattle.basics.specs.Choice.{only}
use Rattle.matching.specs.Branches.{stands, branches}
use Rattle.counting.specs.declared.window.Window.{Window}
use Rattle.counting.specs.Steps.Inputs.{Input}
use Rattle.counting.specs.Steps.Fits.{fitted, Fitted, part}
use Rattle.counting.specs.Steps.Rows.{size, stop_at}
use Rattle.counting.specs.Steps.Tables.{NextAlive, Reached, ends, leads, NextRows, rows_of, Tabled}
use Rattle.counting.specs.Steps.Walks.{run}
use Rattle.counting.specs.Laws.Runs.{gather_same, run_none, run_some}
use Rattle.counting.proofs.Counting.{fits_inside, part-size, Stage, stage_back, size_less}

-- ---- a test that tells where there are rows

record Tells (alive : ℕ → Bool) (g : ℕ → List (List ℕ)) (n : ℕ) : Type 0 where
  some : (x : ℕ) → x < n → alive x ≡ true → g x ≡ [] → ⊥
  none : (x : ℕ) → x < n → alive x ≡ false → g x ≡ []
  past : (x : ℕ) → n ≤ x → g x ≡ []

told : {alive : ℕ → Bool} {g : ℕ → List (List ℕ)} {n i v : ℕ} → Tells alive g n → NextAlive alive n i v → NextRows g n i v
told {alive} {g} {n} {i} {v} s l = record {
  past = l.past;
  gap = λ x a b. elim (dec_le n x) [ yes c ↦ s.past x c | no c ↦ s.none x (omega arith) (l.gap x a b (omega arith)) ];
  here = λ c. let h = l.here c in (h.0, s.some v h.0 h.1);
}

only_none : {A : Type 0} {b : Bool} (xs : List A) → b ≡ false → only b xs ≡ []
unfolding only
only_none xs e = rw e

only_some : {A : Type 0} {b : Bool} (xs : List A) → b ≡ true → only b xs ≡ xs
unfolding only
only_some xs e = rw e

map_none : {A B : Type 0} (h : A → B) (R : List A) → map h R ≡ [] → R ≡ []
map_none h [] e = refl
map_none h (r ∷ R) e = let z : ◌≡◌ {A = ℕ} 0 1 = cc in absurd (omega arith)

by_case : {P : Type 0} (b : Bool) → (b ≡ true → P) → (b ≡ false → P) → P
by_case true y n = y refl
by_case false y n = n refl

and_other : (a b : Bool) → a && b ≡ false → a ≡ true → b ≡ false
and_other true b e d = e
and_other false b e d = absurd (true≢false (sym d))

-- ---- the rows from a slot on, by the indexes of the window

module _ (f : Pattern) (v : View) (w : Window) where
  abbrev first : ℕ
  first = w.first

  abbrev from : ℕ
  from = w.from

  abbrev stop : ℕ → ℕ
  stop = stop_at f w

  abbrev rows : ℕ → ℕ → ℕ → List (List ℕ)
  rows = rows_of f v w

  rows_past : (k j x : ℕ) → size f w j ≤ x → rows k j x ≡ []
  unfolding rows_of branches only stands stop_at
  rows_past zero j x h = rw (le-ltb (first + x + 1) (first + size f w j + 1) (omega arith))
  rows_past (suc k) j x h = rw (le-ltb (first + x + 1) (first + size f w j + 1) (omega arith))

  -- the last slot
  pub rows_last : (j x : ℕ) → (rows zero j x ≡ [] → ⊥) → rows zero j x ≡ ((first + x + 1) ∷ []) ∷ []
  unfolding rows_of branches
  rows_last j x h =
      let p = first + x + 1 in
      by_case (stands f v stop from j p && leb from p) (λ e. only_some ((p ∷ []) ∷ []) e) (λ e. absurd (h (only_none ((p ∷ []) ∷ []) e)))

  -- an earlier slot, with the gap before the next
  module _ (k j : ℕ) {low high : ℕ} (el : low ≡ (slot_at f (suc j)).low) (eh : high ≡ (slot_at f (suc j)).high) (x : ℕ) where
    abbrev onward : List (List ℕ)
    onward = run (rows k (suc j)) (x + low + 1) (x + high + 1 + 1)

    rows_on : rows (suc k) j x ≡ only (stands f v stop from j (first + x + 1)) (map (λ r. (first + x + 1) ∷ r) onward)
    unfolding rows_of branches run
    rows_on =
        let c : (slot_at f (suc j)).high + 1 - (slot_at f (suc j)).low ≡ x + high + 1 + 1 - (x + low + 1) = omega arith in
        ap (λ (R : List (List ℕ)). only (stands f v stop from j (first + x + 1)) (map (λ r. (first + x + 1) ∷ r) R))
        (ap (λ (z : ℕ). gather (branches f v stop from k (suc j)) (places (first + x + 1 + (slot_at f (suc j)).low + 1) z)) c
        ∙ gather_same (x + high + 1 + 1 - (x + low + 1)) (branches f v stop from k (suc j)) (rows k (suc j)) (first + x + 1 + (slot_at f (suc j)).low + 1) (x + low + 1) (λ i h. ap (branches f v stop from k (suc j)) (omega arith)))

    pub rows_step : (rows (suc k) j x ≡ [] → ⊥) → rows (suc k) j x ≡ map (λ r. (first + x + 1) ∷ r) onward
    rows_step h = by_case (stands f v stop from j (first + x + 1)) (λ e. rows_on ∙ only_some (map (λ r. (first + x + 1) ∷ r) onward) e) (λ e. absurd (h (rows_on ∙ only_none (map (λ r. (first + x + 1) ∷ r) onward) e)))

    pub rows_child : (rows (suc k) j x ≡ [] → ⊥) → x + low + 1 ≤ size f w (suc j)
    rows_child h = elim (dec_le (x + low + 1) (size f w (suc j))) [
      | yes a ↦ a
      | no a ↦ absurd (h (rows_step h ∙ ap (map (λ r. (first + x + 1) ∷ r)) (run_none (rows k (suc j)) (x + low + 1) (x + high + 1 + 1) (λ q b c. rows_past k (suc j) q (omega arith)))))
    ]

  -- ---- the tests of the two steps tell

  module _ {T : List ℕ} (fit : Fitted f v T) (short : first + w.places ≤ v.places) (j : ℕ) (slot : j < f.count) where
    -- the fits of the slot at the places that a row can have there
    abbrev here_fits : List ℕ
    here_fits = part T (j * 20000 + first) (size f w j)

    ends_tells : Tells (ends here_fits first from) (rows zero j) (size f w j)
    unfolding rows_of branches
    ends_tells =
        let same : (x : ℕ) → x < size f w j → (stands f v stop from j (first + x + 1) && leb from (first + x + 1)) ≡ ends here_fits first from x =
        λ x h. ap (λ (b : Bool). b && leb from (first + x + 1)) (fits_inside f v w fit short x j slot h) in
        record {
          some = λ x h e z.
              let o = sym (only_some (((first + x + 1) ∷ []) ∷ []) (same x h ∙ e)) ∙ z in
              let y : ◌≡◌ {A = ℕ} 0 1 = cc in
              omega arith;
          none = λ x h e. only_none (((first + x + 1) ∷ []) ∷ []) (same x h ∙ e);
          past = rows_past zero j;
        }

    leads_tells : (k : ℕ) {low high m : ℕ} (N : List ℕ) → low ≡ (slot_at f (suc j)).low → high ≡ (slot_at f (suc j)).high → high ≤ 63 → size f w j ≤ 20000
        → ((i : ℕ) → i ≤ m → NextRows (rows k (suc j)) m i (get_or N (j * 20001 + 20001 + i) 0))
        → Tells (leads here_fits low high m (j * 20001) N) (rows (suc k) j) (size f w j)
    leads_tells k {low} {high} {m} N el eh narrow few next =
        let entry : ℕ → ℕ = λ x. get_or N (j * 20001 + 20001 + min (x + low + 1) m) 0 in
        let here : (x : ℕ) → NextRows (rows k (suc j)) m (min (x + low + 1) m) (entry x) = λ x. next (min (x + low + 1) m) (omega arith) in
        let same : (x : ℕ) → x < size f w j → stands f v stop from j (first + x + 1) ≡ fitted here_fits x =
        λ x h. fits_inside f v w fit short x j slot h in
        record {
          some = λ x h e z.
              let b = (and-eq-true_iff (fitted here_fits x) (leb (entry x) (x + high + 1))).0 e in
              let le : entry x ≤ x + high + 1 = leb-true (entry x) (x + high + 1) b.1 in
              let on = (here x).here (omega arith) in
              let p = (here x).past in
              let o = sym (rows_on k j el eh x ∙ only_some (map (λ r. (first + x + 1) ∷ r) (onward k j el eh x)) (same x h ∙ b.0)) ∙ z in
              on.1 (run_some (rows k (suc j)) (x + low + 1) (entry x) (x + high + 1 + 1) (omega arith) (omega arith) (map_none (λ r. (first + x + 1) ∷ r) (onward k j el eh x) o));
          none = λ x h e. by_case (fitted here_fits x)
              (λ y.
              let far = leb-false (entry x) (x + high + 1) (and_other (fitted here_fits x) (leb (entry x) (x + high + 1)) e y) in
              rows_on k j el eh x ∙ only_some (map (λ r. (first + x + 1) ∷ r) (onward k j el eh x)) (same x h ∙ y)
              ∙ ap (map (λ r. (first + x + 1) ∷ r)) (run_none (rows k (suc j)) (x + low + 1) (x + high + 1 + 1) (λ q a b. (here x).gap q (omega arith) (omega arith))))
              (λ y. rows_on k j el eh x ∙ only_none (map (λ r. (first + x + 1) ∷ r) (onward k j el eh x)) (same x h ∙ y));
          past = rows_past (suc k) j;
        }

  -- what is said of those fits, of so many places
  module _ {T : List ℕ} (ok : Input f v) (fit : Fitted f v T) (short : first + w.places ≤ v.places) {j m : ℕ} (slot : j < f.count) (em : m ≡ size f w j) where
    pub reached_at : {P : List ℕ} (alive : List ℕ → ℕ → Bool) {base : ℕ} {N N' : List ℕ} → P ≡ part T (j * 20000 + first) m → Reached (alive P) (length P) base N N'
        → Reached (alive (part T (j * 20000 + first) (size f w j))) (size f w j) base N N'
    reached_at alive {base} {N} {N'} p s =
        let d : Reached (alive (part T (j * 20000 + first) (size f w j))) (length (part T (j * 20000 + first) (size f w j))) base N N' = rw (p, em) at s in
        subst (λ (k : ℕ). Reached (alive (part T (j * 20000 + first) (size f w j))) k base N N') (part-size f v w ok fit short j slot) d

-- ---- the table slot by slot: done from slot j on

pub record Tabling (f : Pattern) (v : View) (w : Window) (j r n : ℕ) (N : List ℕ) : Type 0 where
  pub here : Stage f w j r n
  pub table : Tabled f v w j N

module _ {f : Pattern} {v : View} {w : Window} {T : List ℕ} (ok : Input f v) (fit : Fitted f v T) (short : w.first + w.places ≤ v.places) where
  pub tabling_begin : {P N₀ N : List ℕ} {r n : ℕ} → Stage f w (f.count - 1) r n → P ≡ part T ((f.count - 1) * 20000 + w.first) n
      → Reached (ends P w.first w.from) (length P) ((f.count - 1) * 20001) N₀ N → Tabling f v w (f.count - 1) r n N
  tabling_begin {N₀ = N₀} {N} {r} {n} here p s = record {
    here = here;
    table = record {
      next = λ a b c i h.
          let j = f.count - 1 in
          let d : a ≡ j = omega arith in
          let k : f.count - 1 - a ≡ 0 = omega arith in
          let t = reached_at f v w ok fit short here.inside here.rows (λ Q. ends Q w.first w.from) p s in
          rw (k, d) (told (ends_tells f v w fit short j here.inside) (t.row i (rw d at h)));
    };
  }

  pub tabling_more : {P N N' : List ℕ} {j r n low high k : ℕ} → w.places ≤ 20000 → Tabling f v w j r n N → 0 < j
      → low ≡ (slot_at f j).low → high ≡ (slot_at f j).high → high ≤ 63 → k ≡ min w.places (w.starts + (r - high - 1))
      → P ≡ part T ((j - 1) * 20000 + w.first) k → Reached (leads P low high n ((j - 1) * 20001) N) (length P) ((j - 1) * 20001) N N'
      → Tabling f v w (j - 1) (r - high - 1) k N'
  tabling_more {N = N} {N'} {j} {r} {n} {low} {high} {k} few c pos el eh narrow ek p s =
      let inside = c.here.inside in
      let rows = c.here.rows in
      let ej : suc (j - 1) ≡ j = omega arith in
      let back = stage_back c.here pos eh ek in
      let sk = back.rows in
      let less = size_less c.here pos eh ek in
      let d = f.count - 1 - j in
      let el' : low ≡ (slot_at f (suc (j - 1))).low = rw ej el in
      let eh' : high ≡ (slot_at f (suc (j - 1))).high = rw ej eh in
      let next : (i : ℕ) → i ≤ n → NextRows (rows_of f v w d (suc (j - 1))) n i (get_or N ((j - 1) * 20001 + 20001 + i) 0) = λ i h.
      let at : j * 20001 + i ≡ (j - 1) * 20001 + 20001 + i = omega arith in
      rw (ej, ← at) (rw (← rows) at (c.table.next j (omega arith) inside i (rw (← rows) h))) in
      let tells = leads_tells f v w fit short (j - 1) (omega arith) d N el' eh' narrow (omega arith) next in
      let t = reached_at f v w ok fit short back.inside sk (λ Q. leads Q low high n ((j - 1) * 20001) N) p s in
      record {
        here = back;
        table = record {
          next = λ b le lt i h. elim (ℕ_discrete b (j - 1)) [
            | yes e ↦
                let ed : f.count - 1 - b ≡ suc d = omega arith in
                rw (ed, e) (told tells (t.row i (rw e at h)))
            | no e ↦ rw (t.above (b * 20001 + i) (omega arith)) (c.table.next b (omega arith) lt i h)
          ];
        };
      }
