-- All occurrences by the walk: the rows of a window are those with its first place, or those of a sentence. Assumes nothing.
use Rattle.std.proofs.Common.{◌≡◌, ℕ, suc, ◌+◌, ◌-◌, ◌*◌, ◌<◌, ◌≤◌, min, true, List, [], ◌∷◌, ◌++◌, map, length, get_or, take, sym, refl, ap, ◌∙◌, arith}
use mathlib.Core.Path.{fun_ext}
use Rattle.pattern.specs.declared.Pattern.{Pattern}
use Rattle.pattern.specs.Patterns.{slot_at}
use Rattle.basics.specs.Collections.{Every}
use Rattle.matching.specs.Occurrence.{View}
use Rattle.matching.specs.Occurrences.{occurrences_in, starting_in, places}
use Rattle.basics.specs.Written.{written}
use Rattle.basics.specs.Laws.Collections.{every_map}
use Rattle.matching.proofs.Laws.Enumeration.{occurrences-occur}
use Rattle.basics.specs.Sums.{gather}
use Rattle.matching.proofs.Laws.Branches.{tree, forest}
use Rattle.matching.specs.Spans.{width, horizon, limit, least}
use Rattle.matching.proofs.Laws.Cover.{occurrences_each, starting_each}
use Rattle.matching.proofs.Laws.Sentences.{horizon_past}
use Rattle.counting.specs.declared.tables.Tables.{Tables}
use Rattle.counting.specs.declared.walk.Trail.{Trail}
use Rattle.counting.specs.declared.window.Window.{Window}
use Rattle.counting.specs.Steps.Inputs.{Input}
use Rattle.counting.specs.Laws.Inputs.{gaps}
use Rattle.counting.specs.Laws.Runs.{gather_same, run_split, length_run, run_one, put-append, put_written}
use Rattle.counting.specs.Steps.Fits.{Fitted}
use Rattle.counting.specs.Steps.Plans.{gap_at, Plan, plan_pattern, plan_view, Within, sentence_at, start_at, unbound}
use Rattle.counting.specs.Steps.Rows.{size, stop_at}
use Rattle.counting.specs.Steps.Tables.{rows_of, rows_at, Tabled}
use Rattle.counting.specs.Steps.Walks.{run, put, Leads, Walk, Walked}
use Rattle.counting.specs.Steps.Listings.{Put, window_rows, PutWindow, WindowPut}
use Rattle.counting.proofs.Parting.{last_of, sentence_within, start_within, stop-sentence, stop_start, from_start, off_fits, starting_off, sentence-rows}
use Rattle.counting.proofs.Tabling.{rows_last, rows_step, rows_child}

-- ---- a window's table leads through its rows

module _ (f : Pattern) (v : View) (w : Window) where
  abbrev first : ℕ
  first = w.first

  abbrev rows : ℕ → ℕ → ℕ → List (List ℕ)
  rows = rows_of f v w

  step_at : (j j⁺ k k⁺ : ℕ) {low high : ℕ} → j⁺ ≡ suc j → k⁺ ≡ suc k → low ≡ (slot_at f j⁺).low → high ≡ (slot_at f j⁺).high → (x : ℕ) → (rows k⁺ j x ≡ [] → ⊥)
      → rows k⁺ j x ≡ map (λ r. (first + x + 1) ∷ r) (run (rows k j⁺) (x + low + 1) (x + high + 1 + 1))
  step_at j j⁺ k k⁺ ej ek el eh x h = rw (ek, ej) (rows_step f v w k j (rw ej at el) (rw ej at eh) x (rw ek at h))

  child_at : (j j⁺ k k⁺ : ℕ) {low high : ℕ} → j⁺ ≡ suc j → k⁺ ≡ suc k → low ≡ (slot_at f j⁺).low → high ≡ (slot_at f j⁺).high → (x : ℕ) → (rows k⁺ j x ≡ [] → ⊥)
      → x + low + 1 ≤ size f w j⁺
  child_at j j⁺ k k⁺ ej ek el eh x h = rw ej (rows_child f v w k j (rw ej at el) (rw ej at eh) x (rw ek at h))

  last_at : (j k : ℕ) → k ≡ 0 → (x : ℕ) → (rows k j x ≡ [] → ⊥) → rows k j x ≡ ((first + x + 1) ∷ []) ∷ []
  last_at j k ek x h = rw ek (rows_last f v w j x (rw ek at h))

module _ {r : Trail} (g : Plan r.tables) {w : Window} (i : Within r.tables.places w) (at : r.first ≡ w.first) where
  pub leading : Tabled (plan_pattern g) (plan_view g) w 0 r.next.now → Leads r (size (plan_pattern g) w) (rows_at (plan_pattern g) (plan_view g) w)
  unfolding size
  leading table =
      let f = plan_pattern g in
      let v = plan_view g in
      let h = g.handed in
      let ok = h.input in
      let short = ok.short in
      let inside = i.inside in
      let low : (j : ℕ) → j < f.count → (gap_at r.tables.outline.gaps j).low ≡ (slot_at f j).low = h.outlined.gaps.low in
      let high : (j : ℕ) → j < f.count → (gap_at r.tables.outline.gaps j).high ≡ (slot_at f j).high = h.outlined.gaps.high in
      record {
        few = ok.pattern.few;
        inside = λ j h. omega arith;
        next = λ j h i l. table.next j (omega arith) h i l;
        last = λ j e x h. rw at (last_at f v w j (f.count - 1 - j) (omega arith) x h);
        step = λ j l x h. rw at (step_at f v w j (j + 1) (f.count - 1 - (j + 1)) (f.count - 1 - j) (omega arith) (omega arith) (low (j + 1) l) (high (j + 1) l) x h);
        child = λ j l x h. child_at f v w j (j + 1) (f.count - 1 - (j + 1)) (f.count - 1 - j) (omega arith) (omega arith) (low (j + 1) l) (high (j + 1) l) x h;
        gap = λ j l. let g = gaps ok.pattern (j + 1) l in let a = low (j + 1) l in let b = high (j + 1) l in (omega arith, omega arith);
      }

-- ---- what is written

pub every_long : (f : Pattern) (v : View) → Every (λ r. length r ≡ f.count) (occurrences_in f v)
every_long f v = every_map (λ r o. o.size) (occurrences-occur f v)

map_same : (row : List ℕ) (R : List (List ℕ)) → map (λ s. take 0 row ++ s) R ≡ R
map_same row [] = refl
map_same row (r ∷ R) = ap (λ (T : List (List ℕ)). r ∷ T) (map_same row R)

-- ---- the rows with a first place that was passed

-- the occurrences with the first place x + 1
unfoldable pub start_rows : Pattern → View → ℕ → List (List ℕ)
start_rows f v x = starting_in f v (x + 1)

-- the rows with a first place before index i stand in the list
pub record Listing (f : Pattern) (v : View) (l : List ℕ) (i rows : ℕ) (l' : List ℕ) : Type 0 where
  pub long : length l' ≡ length l
  pub inside : i ≤ v.places
  pub number : rows ≡ length (run (start_rows f v) 0 i)
  pub list : l' ≡ put f.count 0 (run (start_rows f v) 0 i) l

pub listing_begin : {f : Pattern} {v : View} {l : List ℕ} → Listing f v l 0 0 l
unfolding run gather places put
listing_begin = record { long = refl; inside = omega arith; number = refl; list = refl }

module _ {f : Pattern} {v : View} (ok : Input f v) where
  each_rows : run (start_rows f v) 0 v.places ≡ occurrences_in f v
  unfolding run forest start_rows
  each_rows =
      let some = ok.pattern.some in
      let one = ok.pattern.least in
      let d : v.places - 0 ≡ v.places = omega arith in
      ap (λ (c : ℕ). gather (start_rows f v) (places 0 c)) d
      ∙ gather_same v.places (start_rows f v) (tree f v (limit f v) (least f)) 0 1
      (λ k h. let e : 0 + k + 1 ≡ 1 + k = omega arith in ap (starting_in f v) e ∙ starting_each f v some (1 + k) (omega arith) (omega arith) one)
      ∙ sym (occurrences_each f v some one)

  module _ {l : List ℕ} {i rows : ℕ} {l' : List ℕ} (s : Listing f v l i rows l') where
    pub listing_done : v.places ≤ i → length (occurrences_in f v) * f.count ≤ length l → l' ≡ written f.count (occurrences_in f v) l
    listing_done h room =
        let a = s.inside in
        let e : i ≡ v.places = omega arith in
        s.list ∙ rw (e, each_rows) (put_written (occurrences_in f v) f.count l (every_long f v) room)

    -- the rows that start from the index i to e - 1 have been put after those before
    listing_past : {e : ℕ} → i < e → e ≤ v.places → {r : ℕ} {l'' : List ℕ} → length l'' ≡ length l' → r ≡ rows + length (run (start_rows f v) i e)
        → l'' ≡ put f.count rows (run (start_rows f v) i e) l' → Listing f v l e r l''
    listing_past {e} a b {r} {l''} long er el =
        let part = run (start_rows f v) i e in
        let u : run (start_rows f v) 0 e ≡ run (start_rows f v) 0 i ++ part = run_split (start_rows f v) 0 i e (omega arith) (omega arith) in
        record {
          long = long ∙ s.long;
          inside = b;
          number = er ∙ omega (arith, s.number, length_run (start_rows f v) 0 i e (omega arith) (omega arith));
          list =
              el
              ∙ ap (put f.count rows part) s.list
              ∙ sym (put-append (run (start_rows f v) 0 i) part f.count 0 rows l (omega (arith, s.number)))
              ∙ ap (λ (R : List (List ℕ)). put f.count 0 R l) (sym u);
        }

    pub listing_skip : i < v.places → {T : List ℕ} → Fitted f v T → (get_or T i 0 ≡ 1 → ⊥) → Listing f v l (i + 1) rows l'
    unfolding put start_rows
    listing_skip inside fit off =
        let e : run (start_rows f v) i (i + 1) ≡ [] = run_one (start_rows f v) i ∙ starting_off ok (i + 1) (omega arith) (omega arith) (off_fits ok fit i inside off) in
        listing_past (omega arith) (omega arith) refl (rw e (omega arith)) (rw e refl)

  -- the rows of the two kinds of window
  module _ {i e : ℕ} (inside : i < v.places) (ee : e ≡ horizon v (i + 1)) where
    pub start_rows_lem : {k span from : ℕ} → span ≡ width f → k ≡ min span (e - i) → from ≡ i + f.least → run (rows_at f v (start_at i k from) 0) 0 1 ≡ run (start_rows f v) i (i + 1)
    unfolding rows_of start_rows tree
    start_rows_lem {k} {span} {from} es ek ef =
        let a : i + 0 + 1 ≡ i + 1 = omega arith in
        let x : stop_at f (start_at i k from) ≡ limit f v (i + 1) = fun_ext (stop_start f v i k span from es ee ek) in
        let y = from_start f v i k span from es ee ek ef in
        let z : f.count - 1 - 0 ≡ f.count - 1 = omega arith in
        let one : run (rows_at f v (start_at i k from) 0) 0 1 ≡ rows_at f v (start_at i k from) 0 0 = run_one (rows_at f v (start_at i k from) 0) 0 in
        let rows : rows_at f v (start_at i k from) 0 0 ≡ starting_in f v (i + 1) = rw (a, x, y, z) (sym (starting_each f v ok.pattern.some (i + 1) (omega arith) (omega arith) ok.pattern.least)) in
        one ∙ rows ∙ sym (run_one (start_rows f v) i)

    pub sentence_runs : unbound f v.places ≡ true → run (rows_at f v (sentence_at i e) 0) 0 (e - i) ≡ run (start_rows f v) i e
    unfolding run rows_of start_rows
    sentence_runs spans =
        let l : i + 1 ≤ v.places = omega arith in
        let b : i ≤ e = omega (arith, horizon_past v l) in
        let x : stop_at f (sentence_at i e) ≡ (λ j. e + 1) = fun_ext (stop-sentence f b) in
        let z : f.count - 1 - 0 ≡ f.count - 1 = omega arith in
        let d : e - i - 0 ≡ e - i = omega arith in
        rw d (gather_same (e - i) (rows_at f v (sentence_at i e) 0) (start_rows f v) 0 i
        (λ k h. let c : i + (0 + k) + 1 ≡ i + k + 1 = omega arith in rw (c, x, z) (sym (sentence-rows ok spans inside ee (i + k) (omega arith) (omega arith)))))

-- ---- a window's rows, by a walk over its table

module _ {r : Trail} {w : Window} {done space : ℕ} (g : PutWindow r.tables w done space) (at : r.first ≡ w.first) {y : ℕ} (ey : y + 1 ≡ w.starts)
    (table : Tabled (plan_pattern g.plan) (plan_view g.plan) w 0 r.next.now) where
  pub window_walk : Walk r 0 0 y done space
  window_walk =
      let ok = g.plan.handed.input in
      let some = ok.pattern.some in
      let short = ok.short in
      let inside = g.within.inside in
      let starts = g.within.starts in
      record {
        n = size (plan_pattern g.plan) w;
        rows = rows_at (plan_pattern g.plan) (plan_view g.plan) w;
        leads = leading g.plan g.within at table;
        slot = omega arith;
        start = omega arith;
        order = omega arith;
        near = omega arith;
        room = g.room;
        fits = rw ey g.fits;
        wide = g.wide;
      }

  pub window_written : {row l : List ℕ} {n : ℕ} {l' : List ℕ} → Walked window_walk row l n l' → WindowPut g l n l'
  unfolding window_walk
  window_written {row} {l} d =
      let R = rows_at (plan_pattern g.plan) (plan_view g.plan) w 0 in
      record {
        number = rw ey at d.number;
        list = d.list ∙ ap (λ (S : List (List ℕ)). put r.tables.slots done S l) (map_same row (run R 0 (y + 1)) ∙ ap (run R 0) ey);
      }

-- ---- a turn of the two loops: a window's rows, from the index i on

module _ {t : Tables} {l : List ℕ} (g : Put t (length l)) {i rows : ℕ} {l' : List ℕ} (s : Listing (plan_pattern g.plan) (plan_view g.plan) l i rows l') {w : Window} where
  -- those from there to e - 1
  module _ {e : ℕ} (past : i < e) (end : e ≤ t.places) (within : Within t.places w) (starts : w.starts ≡ e - i)
      (same : window_rows g.plan w ≡ run (start_rows (plan_pattern g.plan) (plan_view g.plan)) i e) where
    window_put : PutWindow t w rows (length l')
    window_put =
        let f = plan_pattern g.plan in
        let v = plan_view g.plan in
        let long = s.long in
        record {
          plan = g.plan;
          within = within;
          some = omega arith;
          room = length (occurrences_in f v);
          fits = rw (same, ← each_rows g.plan.handed.input)
              (omega (arith, s.number, length_run (start_rows f v) 0 i e (omega arith) (omega arith), length_run (start_rows f v) 0 e t.places (omega arith) end));
          wide = rw long g.room;
        }

    listing_more : {r : ℕ} {l'' : List ℕ} → length l'' ≡ length l' → WindowPut window_put l' r l'' → Listing (plan_pattern g.plan) (plan_view g.plan) l e r l''
    unfolding window_put
    listing_more long d = listing_past g.plan.handed.input s past end long (rw same at d.number) (rw same at d.list)

  module _ (h : i < t.places) where
    -- a sentence's
    module _ (spans : t.outline.unbound ≡ true) (ew : w ≡ sentence_at i (get_or t.lasts.now i 0)) where
      sentence_same : window_rows g.plan w ≡ run (start_rows (plan_pattern g.plan) (plan_view g.plan)) i (get_or t.lasts.now i 0)
      sentence_same = let d = g.plan.handed in rw ew (sentence_runs d.input h (d.horizons.last i h) (sym d.outlined.spans ∙ spans))

      sentence_starts : w.starts ≡ get_or t.lasts.now i 0 - i
      sentence_starts = rw ew refl

      pub sentence_put : PutWindow t w rows (length l')
      sentence_put = let b = last_of g.plan h in window_put b.0 b.1 (sentence_within g.plan h ew) sentence_starts sentence_same

      pub sentence_listed : {r : ℕ} {l'' : List ℕ} → length l'' ≡ length l' → WindowPut sentence_put l' r l''
          → Listing (plan_pattern g.plan) (plan_view g.plan) l (i + w.places) r l''
      unfolding sentence_put
      sentence_listed same d =
          let b = last_of g.plan h in
          let q : i + w.places ≡ get_or t.lasts.now i 0 = rw ew (omega arith) in
          rw q (listing_more b.0 b.1 (sentence_within g.plan h ew) sentence_starts sentence_same same d)

    -- those with one first place
    module _ (ew : w ≡ start_at i (min t.outline.span (get_or t.lasts.now i 0 - i)) (i + t.outline.least)) where
      place_same : window_rows g.plan w ≡ run (start_rows (plan_pattern g.plan) (plan_view g.plan)) i (i + 1)
      place_same =
          let d = g.plan.handed in
          let least = d.outlined.shortest in
          rw ew (start_rows_lem d.input h (d.horizons.last i h) d.outlined.widest refl (omega arith))

      place_starts : w.starts ≡ i + 1 - i
      place_starts = rw ew (omega arith)

      pub place_put : PutWindow t w rows (length l')
      place_put = window_put (omega arith) (omega arith) (start_within g.plan h ew) place_starts place_same

      pub place_listed : {r : ℕ} {l'' : List ℕ} → length l'' ≡ length l' → WindowPut place_put l' r l''
          → Listing (plan_pattern g.plan) (plan_view g.plan) l (i + 1) r l''
      unfolding place_put
      place_listed same d = listing_more (omega arith) (omega arith) (start_within g.plan h ew) place_starts place_same same d
