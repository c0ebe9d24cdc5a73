-- What the rows of numbers are: the ways on from each place of the window. Assumes nothing.
use Rattle.std.proofs.Common.{◌≡◌, ℕ, zero, suc, ◌+◌, ◌-◌, ◌*◌, ◌^◌, ◌<◌, ◌≤◌, min, Bool, true, false, ltb, List, length, get_or, take, drop, set, refl, sym, ap, ◌∙◌, arith, le-ltb, lt-ltb, length-take, length-drop, get_or-take, get_or-drop, get_or-set_other, get_or-set_same}
use native.Mathlib.Nat.{min-eq_left, min-eq_right}
use native.Mathlib.Decide.{dec_le}
use Rattle.pattern.specs.declared.Pattern.{Pattern}
use Rattle.pattern.specs.Patterns.{slot_at}
use Rattle.pattern.specs.Accepted.{Accepted}
use Rattle.matching.specs.Occurrence.{View}
use Rattle.counting.specs.Laws.Inputs.{gaps}
use Rattle.counting.specs.Steps.Inputs.{Input}
use Rattle.basics.specs.Sums.{total, rest}
use Rattle.basics.specs.Laws.Sums.{total_split, total_same, total_none, run_inside, run_past}
use Rattle.basics.specs.Choice.{when}
use Rattle.matching.specs.Branches.{stands, ways}
use Rattle.matching.specs.Spans.{far}
use Rattle.counting.specs.Laws.Bound.{total_fits}
use Rattle.counting.specs.Steps.Numbers.{val}
use Rattle.counting.specs.declared.window.Window.{Window}
use Rattle.counting.specs.declared.tables.Tables.{Tables}
use Rattle.counting.specs.Steps.Fits.{fitted, Fitted, part}
use Rattle.counting.specs.Steps.Plans.{gap_at, Handed, Plan, plan_pattern, plan_view, Within}
use Rattle.counting.specs.Steps.Rows.{kept, ending, onward, Rising, Ended, Spread, size, stop_at, Row}
use Rattle.counting.proofs.Distances.{distance-step, far-bound}
use Rattle.counting.proofs.Loops.{rest_stop, kept_sum, kept_own, kept_same}

-- the numbers at the first places of a window, and what stands from the next on
before : (v : ℕ → ℕ) (first n i : ℕ) → i ≤ n → total i (λ k. v (first + k + 1)) 0 + rest v (first + n + 1) (first + i + 1) ≡ rest v (first + n + 1) (first + 1)
before v first n i h =
    let e = total_same i (λ k. v (first + k + 1)) v 0 (first + 1) (λ k l.
    let o : 0 + k ≡ k = omega arith in
    let d : first + 1 + k ≡ first + k + 1 = omega arith in
    rw (o, d) refl) in
    omega (arith, e, run_inside v (first + n + 1) i (first + 1) (first + i + 1) (omega arith) (omega arith))

-- a window's sum is the difference of the sums from its two ends on, each no further than the stop
module _ (v : ℕ → ℕ) (first n : ℕ) (none : (q : ℕ) → first + n + 1 ≤ q → v q ≡ 0) (i low high : ℕ) (h : i < n) (l : low ≤ high) where
  pub window : rest v (first + n + 1) (first + min (i + low + 1) n + 1) - rest v (first + n + 1) (first + min (i + high + 2) n + 1) ≡ total (high + 1 - low) v (first + i + 1 + low + 1)
  window = elim (dec_le (i + low + 1) n) [
    | yes a ↦
        let x : first + (i + low + 1) + 1 ≡ first + i + 1 + low + 1 = omega arith in
        elim (dec_le (i + high + 2) n) [
          | yes b ↦ rw (min-eq_left a, min-eq_left b, x)
              (omega (arith, run_inside v (first + n + 1) (high + 1 - low) (first + i + 1 + low + 1) (first + (i + high + 2) + 1) (omega arith) (omega arith)))
          | no b ↦
              let c : n ≤ i + high + 2 = omega arith in
              rw (min-eq_left a, min-eq_right c, x)
              (omega (arith, rest_stop v (first + n + 1), run_past v (first + n + 1) (high + 1 - low) (first + i + 1 + low + 1) none (omega arith) (omega arith)))
        ]
    | no a ↦
        let b : n ≤ i + low + 1 = omega arith in
        let c : n ≤ i + high + 2 = omega arith in
        rw (min-eq_right b, min-eq_right c)
        (omega (arith, total_none (high + 1 - low) v (first + i + 1 + low + 1) (λ q y. none q (omega arith))))
  ]

  -- and of the sums up to there
  pub window_sums : total (min (i + high + 1) (n - 1) + 1) (λ k. v (first + k + 1)) 0 - total (min (i + low) (n - 1) + 1) (λ k. v (first + k + 1)) 0 ≡ total (high + 1 - low) v (first + i + 1 + low + 1)
  window_sums =
      let a : min (i + low) (n - 1) + 1 ≡ min (i + low + 1) n = omega arith in
      let b : min (i + high + 1) (n - 1) + 1 ≡ min (i + high + 2) n = omega arith in
      rw (a, b) (omega (arith, window, before v first n (min (i + low + 1) n) (omega arith), before v first n (min (i + high + 2) n) (omega arith)))

part_length : (T : List ℕ) (at n : ℕ) → at + n ≤ length T → length (part T at n) ≡ n
unfolding part
part_length T at n h = simp (length-take, length-drop) (omega arith)

module _ (f : Pattern) (v : View) (w : Window) where
  abbrev first : ℕ
  first = w.first

  abbrev stop : ℕ → ℕ
  stop = stop_at f w

  -- what is written for each place of slot j, with k slots after it
  pub record Kept (summed : Bool) (k j : ℕ) (N : List ℕ) : Type 0 where
    pub row : (i : ℕ) → i < size f w j → val N i ≡ kept summed (λ x. ways f v stop w.from k j (first + x + 1)) i

  pub fits_inside : {T : List ℕ} → Fitted f v T → first + w.places ≤ v.places → (i j : ℕ) → j < f.count → i < size f w j
      → stands f v stop w.from j (first + i + 1) ≡ fitted (part T (j * 20000 + first) (size f w j)) i
  unfolding stands stop_at size part
  fits_inside {T} fit short i j l h =
      let a : first + i + 1 < first + size f w j + 1 = omega arith in
      let d : j * 20000 + first + i ≡ j * 20000 + (first + i) = omega arith in
      let e : get_or (take (size f w j) (drop (j * 20000 + first) T)) i 0 ≡ get_or T (j * 20000 + first + i) 0 = rw (get_or-take, get_or-drop) in
      rw (lt-ltb (first + i + 1) (first + size f w j + 1) a, e, d) (sym (fit.fit j l (first + i) (omega arith)))

  -- the fits of a slot at those places
  abbrev fits_part : List ℕ → ℕ → List ℕ
  fits_part T j = part T (j * 20000 + first) (size f w j)

  pub part-size : {T : List ℕ} → Input f v → Fitted f v T → first + w.places ≤ v.places → (j : ℕ) → j < f.count → length (fits_part T j) ≡ size f w j
  unfolding size
  part-size {T} ok fit inside j l = let a = fit.size in let b = ok.short in let c = ok.pattern.few in part_length T (j * 20000 + first) (size f w j) (omega arith)

  ways_none : (k j p : ℕ) → stop j ≤ p → ways f v stop w.from k j p ≡ 0
  unfolding ways when stands
  ways_none zero j p h = rw (le-ltb p (stop j) h)
  ways_none (suc k) j p h = rw (le-ltb p (stop j) h)

  pub end_row : {j m : ℕ} {summed : Bool} {T P N : List ℕ} → Input f v → Fitted f v T → first + w.places ≤ v.places → j < f.count → m ≡ size f w j
      → P ≡ part T (j * 20000 + first) m → Ended P first w.from summed N → Kept summed zero j N
  unfolding ways
  end_row {j} {summed = summed} {T = T} ok fit short l q p e =
      let d : Ended (fits_part T j) first w.from summed _ = rw (p, q) at e in
      let n = part-size ok fit short j l in
      record {
        row = λ i h. d.row i (omega arith) ∙ kept_same summed (ending (fits_part T j) first w.from) (λ x. ways f v stop w.from zero j (first + x + 1)) i
            (λ x b. rw (fits_inside fit short x j l (omega arith)) refl);
      }

  -- a slot's numbers, from the sums of the next slot's row
  module _ {k j : ℕ} {T N : List ℕ} (ok : Input f v) (fit : Fitted f v T) (short : first + w.places ≤ v.places) (x : j < f.count)
      (l : (slot_at f (suc j)).low ≤ (slot_at f (suc j)).high) (y : size f w j ≤ size f w (suc j)) (s : Kept true k (suc j) N) where
    abbrev lo : ℕ
    lo = (slot_at f (suc j)).low

    abbrev hi : ℕ
    hi = (slot_at f (suc j)).high

    abbrev m : ℕ
    m = size f w (suc j)

    onward_is : (i : ℕ) → i < size f w j → onward (fits_part T j) lo hi m N i ≡ ways f v stop w.from (suc k) j (first + i + 1)
    unfolding ways stop_at
    onward_is i h =
        let a = min (i + lo) (m - 1) in
        let b = min (i + hi + 1) (m - 1) in
        let on = ways f v stop w.from k (suc j) in
        let d : val N b - val N a ≡ total (hi + 1 - lo) on (first + i + 1 + lo + 1) =
        rw (s.row a (omega arith), s.row b (omega arith), kept_sum (λ x. on (first + x + 1)) a, kept_sum (λ x. on (first + x + 1)) b) (window_sums on first m (ways_none k (suc j)) i lo hi (omega arith) l) in
        rw (fits_inside fit short i j x h, d) refl

    spread_kept : {summed : Bool} {N' : List ℕ} → Spread (fits_part T j) lo hi m summed N N' → Kept summed (suc k) j N'
    spread_kept {summed} e =
        let n = part-size ok fit short j x in
        record {
          row = λ i h. e.row i (omega arith) ∙ kept_same summed (onward (fits_part T j) lo hi m N) (λ z. ways f v stop w.from (suc k) j (first + z + 1)) i (λ z b. onward_is z (omega arith));
        }

    spread_small : suc j + k < f.count → w.places ≤ 20000 → (i : ℕ) → i ≤ length (fits_part T j) → total i (onward (fits_part T j) lo hi m N) 0 < 2 ^ 128
    unfolding size
    spread_small h few i b =
        let n = part-size ok fit short j x in
        let e = total_same i (onward (fits_part T j) lo hi m N) (ways f v stop w.from (suc k) j) 0 (first + 1) (λ z c.
        let d : first + 1 + z ≡ first + z + 1 = omega arith in
        let o : 0 + z ≡ z = omega arith in
        rw (o, d) (onward_is z (omega arith))) in
        rw e (total_fits f v (gaps ok.pattern) i (suc k) stop w.from j (first + 1) (omega arith) ok.pattern.few (omega arith))

  -- the same where the run has its own names for these numbers
  module _ {k j j' low high a b : ℕ} {T P N : List ℕ} (ok : Input f v) (fit : Fitted f v T) (short : first + w.places ≤ v.places) (x : j' < f.count) (q : j ≡ suc j')
      (el : low ≡ (slot_at f j).low) (eh : high ≡ (slot_at f j).high) (l : (slot_at f j).low ≤ (slot_at f j).high) (ea : a ≡ size f w j') (eb : b ≡ size f w j) (y : a ≤ b)
      (s : Kept true k j N) (p : P ≡ part T (j' * 20000 + first) a) where
    pub spread_row : {summed : Bool} {N' : List ℕ} → Spread P low high b summed N N' → Kept summed (suc k) j' N'
    spread_row e = spread_kept ok fit short x (rw q at l) (rw (ea, eb, q) at y) (rw q at s) (rw (p, el, eh, ea, eb, q) at e)

    pub spread_fits : j + k < f.count → w.places ≤ 20000 → (i : ℕ) → i ≤ length P → total i (onward P low high b N) 0 < 2 ^ 128
    spread_fits h few i n = rw (p, el, eh, ea, eb, q)
        (spread_small ok fit short x (rw q at l) (rw (ea, eb, q) at y) (rw q at s) (rw q at h) few i (rw (p, ea) at n))

  pub row_rising : {k j m : ℕ} {N : List ℕ} → m ≡ size f w j → Kept true k j N → Rising m N
  row_rising {k} {j} {m} q s = rw q record {
    rises = λ a b x y.
        let u : ℕ → ℕ = λ i. ways f v stop w.from k j (first + i + 1) in
        rw (s.row a (omega arith), s.row b y, kept_sum u a, kept_sum u b) (omega (arith, total_split (a + 1) (b - a) (b + 1) u 0 (a + 1) (omega arith) (omega arith)));
  }

-- ---- what a run over a window is given

-- its numbers are small
pub record Small (t : Tables) (w : Window) : Type 0 where
  pub some : 1 ≤ t.slots
  pub few : t.slots ≤ 16
  pub near : t.outline.reach ≤ 960
  pub table : 320000 ≤ length t.fits.now
  pub short : w.first + w.places ≤ 20000
  pub starts : w.starts ≤ w.places

module _ {t : Tables} (g : Plan t) where
  abbrev handed : Handed (plan_pattern g) (plan_view g) t
  handed = g.handed

  pub run_small : {w : Window} → Within t.places w → Small t w
  run_small i =
      let h = handed in
      let ok = h.input.pattern in
      let some = ok.some in
      let short = h.input.short in
      let inside = i.inside in
      record {
        some = some;
        few = ok.few;
        near = omega (arith, far-bound ok (t.slots - 1) (omega arith), h.outlined.farthest);
        table = h.table.size;
        short = omega arith;
        starts = i.starts;
      }

  pub starts_small : {w : Window} → Within t.places w → w.starts + t.outline.reach ≤ 20960
  starts_small i = let s = run_small i in omega arith

  -- a slot has as many fits at its places there as there are places
  pub run_part : {w : Window} → Within t.places w → {j n : ℕ} → j < t.slots → n ≤ w.places → {P : List ℕ} → P ≡ part t.fits.now (j * 20000 + w.first) n → length P ≡ n
  run_part {w} i {j} {n} l few e = let s = run_small i in rw e (part_length t.fits.now (j * 20000 + w.first) n (omega arith))

  -- both bounds of the gap before slot j
  module _ {j : ℕ} (inside : j < t.slots) where
    pub run_low : (gap_at t.outline.gaps j).low ≡ (slot_at (plan_pattern g) j).low
    run_low = handed.outlined.gaps.low j inside

    pub run_high : (gap_at t.outline.gaps j).high ≡ (slot_at (plan_pattern g) j).high
    run_high = handed.outlined.gaps.high j inside

    pub run-gap : ((gap_at t.outline.gaps j).low ≤ (gap_at t.outline.gaps j).high) × ((gap_at t.outline.gaps j).high ≤ 63)
    run-gap = let h = gaps handed.input.pattern j inside in (omega (arith, run_low, run_high), omega (arith, run_low, run_high))

-- ---- the loop over the slots: the slot j is done, its row has n places, and it is at most r from the first

-- a slot that the run has come to: what can be reached there, and how many places its row has
pub record Stage (f : Pattern) (w : Window) (j r n : ℕ) : Type 0 where
  pub inside : j < f.count
  pub reach : r ≡ far f j
  pub rows : n ≡ size f w j

pub stage_small : {f : Pattern} {w : Window} {j r n : ℕ} → Accepted f → Stage f w j r n → (r ≤ 960) × (n ≤ w.places)
unfolding size
stage_small {j = j} ok s = let e = s.rows in (omega (arith, far-bound ok j s.inside, s.reach), omega arith)

pub record Counting (f : Pattern) (v : View) (w : Window) (j r n : ℕ) (N : List ℕ) : Type 0 where
  pub room : w.places < length N
  pub here : Stage f w j r n
  pub row : Kept f v w (ltb 0 j) (f.count - 1 - j) j N

-- the first stage: the last slot
module _ {f : Pattern} (w : Window) (some : 1 ≤ f.count) {r n : ℕ} (er : r ≡ far f (f.count - 1)) (en : n ≡ min w.places (w.starts + r)) where
  pub stage_begin : Stage f w (f.count - 1) r n
  unfolding size
  stage_begin = record { inside = omega arith; reach = er; rows = en ∙ ap (λ (z : ℕ). min w.places (w.starts + z)) er }

  pub counting_begin : {v : View} {T P N : List ℕ} → Input f v → Fitted f v T → w.first + w.places ≤ v.places → w.places < length N
      → P ≡ part T ((f.count - 1) * 20000 + w.first) n → Ended P w.first w.from (ltb 0 (f.count - 1)) N → Counting f v w (f.count - 1) r n N
  counting_begin {v} ok fit inside room p e = record {
    room = room;
    here = stage_begin;
    row = let z : f.count - 1 - (f.count - 1) ≡ 0 = omega arith in rw z (end_row f v w ok fit inside (omega arith) stage_begin.rows p e);
  }

-- one slot back: what can be reached, and how many places the row has
module _ {f : Pattern} {w : Window} {j r n : ℕ} (c : Stage f w j r n) (pos : 0 < j) {high : ℕ} (eh : high ≡ (slot_at f j).high) where
  far_back : r ≡ far f (j - 1) + high + 1
  far_back = omega (arith, distance-step (λ j. (slot_at f j).high) (j - 1) j (omega arith), c.reach)

  pub reach_back : (high ≤ r) × (1 ≤ r - high) × (r - high - 1 ≡ far f (j - 1))
  reach_back = (omega (arith, far_back), omega (arith, far_back), omega (arith, far_back))

  module _ {k : ℕ} (ek : k ≡ min w.places (w.starts + (r - high - 1))) where
    pub stage_back : Stage f w (j - 1) (r - high - 1) k
    unfolding size
    stage_back = let i = c.inside in record {
      inside = omega arith;
      reach = reach_back.2;
      rows = ek ∙ ap (λ (z : ℕ). min w.places (w.starts + z)) reach_back.2;
    }

    pub size_less : (k ≤ n) × (n ≤ w.places)
    unfolding size
    size_less = let x = c.rows in let y = c.reach in let z = reach_back in (omega arith, omega arith)

-- the same in a run, for both bounds of the gap before the slot
module _ {t : Tables} (g : Plan t) {w : Window} {j r n : ℕ} (s : Stage (plan_pattern g) w j r n) (pos : 0 < j) where
  -- the slot after the one before
  pub next_slot : j - 1 + 1 ≡ j
  next_slot = omega arith

  pub gap_low : (gap_at t.outline.gaps (j - 1 + 1)).low ≡ (slot_at (plan_pattern g) j).low
  gap_low = rw next_slot (run_low g s.inside)

  pub gap_high : (gap_at t.outline.gaps (j - 1 + 1)).high ≡ (slot_at (plan_pattern g) j).high
  gap_high = rw next_slot (run_high g s.inside)

  pub gap_order : ((gap_at t.outline.gaps (j - 1 + 1)).low ≤ (gap_at t.outline.gaps (j - 1 + 1)).high) × ((gap_at t.outline.gaps (j - 1 + 1)).high ≤ 63)
  gap_order = rw next_slot (run-gap g s.inside)

  module _ {high : ℕ} (eh : high ≡ (gap_at t.outline.gaps (j - 1 + 1)).high) where
    pub back_fits : high ≤ r
    back_fits = omega (arith, eh, reach_back s pos gap_high)

    pub back_on : 1 ≤ r - high
    back_on = omega (arith, eh, reach_back s pos gap_high)

    pub back_small : Within t.places w → w.starts + (r - high - 1) ≤ 20960
    back_small i = let a = run_small g i in omega (arith, stage_small g.handed.input.pattern s)

-- what a turn of the loop does: the numbers of the slot before, from the sums
module _ {f : Pattern} {v : View} {w : Window} {j r n : ℕ} {N : List ℕ} (c : Counting f v w j r n N) (ok : Input f v) where
  pub counting_room : n < length N
  counting_room = omega (arith, c.room, stage_small ok.pattern c.here)

  -- the first slot's numbers, and a 0 after them
  pub counting_done : j ≤ 0 → Row f v w (f.count - 1) 0 (set N n 0)
  counting_done h =
      let e : j ≡ 0 = omega arith in
      let room = counting_room in
      let size = rw e at c.here.rows in
      let z : f.count - 1 - 0 ≡ f.count - 1 = omega arith in
      let d : Kept f v w false (f.count - 1) 0 N = rw z at (rw e at c.row) in
      record {
        row = λ i l. get_or-set_other N n i 0 0 (λ q. omega (arith, size)) ∙ d.row i l ∙ kept_own (λ x. ways f v (stop_at f w) w.from (f.count - 1) 0 (w.first + x + 1)) i;
        stop = rw (← size) (get_or-set_same N n 0 0 room);
      }

  module _ (inside : w.first + w.places ≤ v.places) (pos : 0 < j) where
    counting_sums : Kept f v w true (f.count - 1 - j) j N
    counting_sums = rw (lt-ltb 0 j pos) at c.row

    pub counting_rising : Rising n N
    counting_rising = row_rising f v w c.here.rows counting_sums

    module _ {low high : ℕ} (el : low ≡ (slot_at f j).low) (eh : high ≡ (slot_at f j).high) {k : ℕ} (ek : k ≡ min w.places (w.starts + (r - high - 1)))
        {T P : List ℕ} (fit : Fitted f v T) (p : P ≡ part T ((j - 1) * 20000 + w.first) k) where
      pub counting_small : (i : ℕ) → i ≤ length P → total i (onward P low high n N) 0 < 2 ^ 128
      counting_small =
          let i = c.here.inside in
          let s = ok.short in
          let back = stage_back c.here pos eh ek in
          spread_fits f v w {j = j} {j' = j - 1} ok fit inside (omega arith) (omega arith) el eh (gaps ok.pattern j i).0 back.rows c.here.rows (size_less c.here pos eh ek).0
          counting_sums p (omega arith) (omega arith)

      pub counting_more : {N' : List ℕ} → length N' ≡ length N → Spread P low high n (ltb 0 (j - 1)) N N' → Counting f v w (j - 1) (r - high - 1) k N'
      counting_more x e =
          let i = c.here.inside in
          let r = c.room in
          let back = stage_back c.here pos eh ek in
          let d : f.count - 1 - (j - 1) ≡ suc (f.count - 1 - j) = omega arith in
          record {
            room = omega arith;
            here = back;
            row = rw d (spread_row f v w {j = j} {j' = j - 1} ok fit inside (omega arith) (omega arith) el eh (gaps ok.pattern j i).0 back.rows c.here.rows (size_less c.here pos eh ek).0 counting_sums p e);
          }
