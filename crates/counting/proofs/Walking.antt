-- What the walk over a table keeps: the rows that start at the indexes passed stand in the list. Assumes nothing.
use Rattle.std.proofs.Common.{◌≡◌, ℕ, ◌+◌, ◌*◌, ◌<◌, ◌≤◌, List, [], ◌∷◌, ◌++◌, map, length, get_or, take, set, sym, refl, ap, ◌∙◌, append_assoc, mul-le-mul_right, add-mul, mul-le-mul, add-one, arith, length-append, length-set, take-take, take-suc-set}
use mathlib.Core.List.{map-append}
use lib.ListN.{length-map}
use lib.Seq.{paste, take-set-le}
use Rattle.counting.specs.declared.walk.Trail.{Trail}
use Rattle.counting.specs.Steps.Plans.{gap_at}
use Rattle.counting.specs.Steps.Tables.{NextRows}
use Rattle.counting.specs.Steps.Walks.{run, put, Walk, Walked}
use Rattle.counting.specs.Laws.Runs.{run_none, run_skip, run_more, run-part, put-append}

-- ---- rows with the same places before them

prefixed : (a : List ℕ) (p : ℕ) (R : List (List ℕ)) → map (λ s. a ++ s) (map (λ r. p ∷ r) R) ≡ map (λ s. (a ++ (p ∷ [])) ++ s) R
prefixed a p [] = refl
prefixed a p (r ∷ R) = rw (prefixed a p R) (ap (λ (s : List ℕ). s ∷ map (λ s. (a ++ (p ∷ [])) ++ s) R) (sym (append_assoc a (p ∷ []) r)))

-- ---- the row that is lent down the slots: its places before slot j stay

pub record Lent (j : ℕ) (row row' : List ℕ) : Type 0 where
  pub long : length row' ≡ 16
  pub front : take j row' ≡ take j row

pub lent_begin : {j : ℕ} {row : List ℕ} → length row ≡ 16 → Lent j row row
lent_begin h = record { long = h; front = refl }

module _ {j : ℕ} {row row' : List ℕ} (s : Lent j row row') (p : ℕ) where
  pub lent_set : Lent j row (set row' j p)
  lent_set = record { long = simp length-set s.long; front = take-set-le j row' j p (omega arith) ∙ s.front }

  -- the next slot's walk keeps one place more
  pub lent_back : {row'' : List ℕ} → length row'' ≡ length (set row' j p) → take (j + 1) row'' ≡ take (j + 1) (set row' j p) → Lent j row row''
  lent_back {row''} same e =
      record {
        long = same ∙ lent_set.long;
        front =
            sym (take-take j (j + 1) row'' (omega arith))
            ∙ ap (take j) e
            ∙ take-take j (j + 1) (set row' j p) (omega arith)
            ∙ lent_set.front;
      }

  one_more : j < 16 → take (j + 1) (set row' j p) ≡ take j row ++ (p ∷ [])
  one_more h = let l = s.long in rw (add-one, ← s.front) (take-suc-set row' j p (omega arith))

module _ {t : Trail} {j x y done space : ℕ} where
  -- the next index to visit is q
  pub record Going (w : Walk t j x y done space) (row l : List ℕ) (q rows : ℕ) (l' : List ℕ) : Type 0 where
    pub past : x ≤ q
    pub clear : (z : ℕ) → y < z → z < q → w.rows j z ≡ []
    pub here : q < 65535 → (q < w.n j) × (w.rows j q ≡ [] → ⊥)
    pub number : rows ≡ done + length (run (w.rows j) x q)
    pub list : l' ≡ put t.tables.slots done (map (λ s. take j row ++ s) (run (w.rows j) x q)) l

  pub going_begin : (w : Walk t j x y done space) {row l : List ℕ} {v : ℕ} → v ≡ get_or t.next.now (j * 20001 + x) 0 → Going w row l v done l
  unfolding put
  going_begin w {row} {l} {v} e =
      let h : NextRows (w.rows j) (w.n j) x v = rw e (w.leads.next j w.slot x w.start) in
      let o = w.order in
      let z = run_none (w.rows j) x v h.gap in
      record {
        past = h.past;
        clear = λ z a b. h.gap z (omega arith) b;
        here = h.here;
        number = rw z (omega arith);
        list = rw z;
      }

  module _ {w : Walk t j x y done space} {row l : List ℕ} {q rows : ℕ} {l' : List ℕ} (g : Going w row l q rows l') where
    module _ (inside : q ≤ y) where
      pub going_in : (q < w.n j) × (w.rows j q ≡ [] → ⊥)
      going_in = let a = w.near in g.here (omega arith)

      pub going_small : t.first + q < 20000
      going_small = let a = w.leads.inside j w.slot in let b = going_in.0 in omega arith

      -- there is room for the rows that start there
      pub going_fits : rows + length (w.rows j q) ≤ w.room
      going_fits =
          let a = g.number in
          let b = w.fits in
          let d = g.past in
          omega (arith, run-part (w.rows j) x q (y + 1) d (omega arith))

      -- the last slot: there is room for one row more
      pub going_room : j + 1 ≡ t.tables.slots → (rows * t.tables.slots + t.tables.slots ≤ space) × (rows + 1 ≤ space)
      going_room last =
          let one = ap length (w.leads.last j last q going_in.1) in
          let fits = going_fits in
          let a : (rows + 1) * t.tables.slots ≤ w.room * t.tables.slots = mul-le-mul_right t.tables.slots (omega arith) in
          let b : (rows + 1) * 1 ≤ (rows + 1) * t.tables.slots = mul-le-mul (omega arith) (omega arith) in
          let d = w.wide in
          (omega (arith, add-mul rows 1 t.tables.slots), omega arith)

      -- an earlier slot: the next slot's walk
      module _ (inner : j + 1 < t.tables.slots) {a b : ℕ} (ea : a ≡ q + (gap_at t.tables.outline.gaps (j + 1)).low + 1) (eb : b ≡ q + (gap_at t.tables.outline.gaps (j + 1)).high + 1) where
        child-rows : w.rows j q ≡ map (λ r. (t.first + q + 1) ∷ r) (run (w.rows (j + 1)) a (b + 1))
        child-rows = rw (ea, eb) (w.leads.step j inner q going_in.1)

        pub child : {space' : ℕ} → space' ≡ space → Walk t (j + 1) a b rows space'
        child es =
            let s = going_small in
            let gap = w.leads.gap j inner in
            let d = ap length child-rows ∙ length-map (run (w.rows (j + 1)) a (b + 1)) (λ r. (t.first + q + 1) ∷ r) in
            record {
              n = w.n;
              rows = w.rows;
              leads = w.leads;
              slot = inner;
              start = rw ea (w.leads.child j inner q going_in.1);
              order = omega arith;
              near = omega arith;
              room = w.room;
              fits = omega (arith, going_fits);
              wide = rw es w.wide;
            }

      -- once the rows are written, the next index is v
      module _ {v : ℕ} (e : v ≡ get_or t.next.now (j * 20001 + (q + 1)) 0) where
        following : NextRows (w.rows j) (w.n j) (q + 1) v
        following = let a = going_in.0 in rw e (w.leads.next j w.slot (q + 1) (omega arith))

        going_past : {r : ℕ} {l'' : List ℕ} → r ≡ rows + length (w.rows j q) → l'' ≡ put t.tables.slots rows (map (λ s. take j row ++ s) (w.rows j q)) l' → Going w row l v r l''
        going_past {r} {l''} er el =
            let pre : List ℕ → List ℕ = λ s. take j row ++ s in
            let R = run (w.rows j) x q in
            let S = w.rows j q in
            let a = g.past in
            let b = following.past in
            let u : run (w.rows j) x v ≡ R ++ S = run_more (w.rows j) x q v a b following.gap in
            record {
              past = omega arith;
              clear = λ z c d. following.gap z (omega arith) d;
              here = following.here;
              number = rw u (er ∙ omega (arith, g.number, length-append R S));
              list =
                  el
                  ∙ ap (put t.tables.slots rows (map pre S)) g.list
                  ∙ sym (put-append (map pre R) (map pre S) t.tables.slots done rows l (g.number ∙ ap (λ (k : ℕ). done + k) (sym (length-map R pre))))
                  ∙ ap (λ (T : List (List ℕ)). put t.tables.slots done T l) (sym (map-append pre R S) ∙ ap (map pre) (sym u));
            }

        module _ {row' : List ℕ} (s : Lent j row row') where
          longer : take (j + 1) (set row' j (t.first + q + 1)) ≡ take j row ++ ((t.first + q + 1) ∷ [])
          longer = let slot = w.slot in let few = w.leads.few in one_more s (t.first + q + 1) (omega arith)

          pub going_leaf : j + 1 ≡ t.tables.slots → {l'' : List ℕ} → l'' ≡ paste l' (rows * t.tables.slots) (set row' j (t.first + q + 1)) t.tables.slots → Going w row l v (rows + 1) l''
          unfolding put
          going_leaf last el =
              let one : w.rows j q ≡ ((t.first + q + 1) ∷ []) ∷ [] = w.leads.last j last q going_in.1 in
              let places = set row' j (t.first + q + 1) in
              let pre : take t.tables.slots places ≡ take j row ++ ((t.first + q + 1) ∷ []) = rw (← last) longer in
              going_past (rw one refl) (el ∙ rw (one, ← pre) (rw (take-take t.tables.slots t.tables.slots places (omega arith))))

          pub going_more : (inner : j + 1 < t.tables.slots) {a b : ℕ} (ea : a ≡ q + (gap_at t.tables.outline.gaps (j + 1)).low + 1) (eb : b ≡ q + (gap_at t.tables.outline.gaps (j + 1)).high + 1) {space' : ℕ} (same : space' ≡ space)
              {r : ℕ} {l'' : List ℕ} → Walked (child inner ea eb same) (set row' j (t.first + q + 1)) l' r l'' → Going w row l v r l''
          unfolding child
          going_more inner {a} {b} ea eb same {r} {l''} d =
              let R = run (w.rows (j + 1)) a (b + 1) in
              let c = ap length (child-rows inner ea eb) ∙ length-map R (λ r. (t.first + q + 1) ∷ r) in
              going_past (d.number ∙ ap (λ (k : ℕ). rows + k) (sym c))
              (d.list ∙ ap (λ (T : List (List ℕ)). put t.tables.slots rows T l') (rw (longer, child-rows inner ea eb) (sym (prefixed (take j row) (t.first + q + 1) R))))

    -- past the last index
    pub going_end : y < q → Walked w row l rows l'
    going_end h =
        let o = w.order in
        let e : run (w.rows j) x q ≡ run (w.rows j) x (y + 1) = run_skip (w.rows j) x (y + 1) q o (omega arith) (λ z a b. g.clear z (omega arith) b) in
        record { number = rw (← e) g.number; list = rw (← e) g.list }
