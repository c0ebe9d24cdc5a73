-- The rows that search after search finds are the greedy list. Assumes nothing.
use Prim.Native.Nat.{ℕ, zero, suc, ◌+◌, ◌-◌, ◌≤◌, ◌<◌}
use native.Mathlib.Omega.{arith}
use mathlib.Core.List.{List, [], ◌∷◌, ◌++◌}
use mathlib.Core.Bool.{true, false}
use mathlib.Core.Path.{◌≡◌, refl, sym, ap, ◌∙◌}
use lib.ListN.{length, take, replicate, length-append}
use lib.Seq.{get_or-take}
use Rattle.pattern.specs.declared.Pattern.{Pattern}
use Rattle.basics.specs.Laws.Arrays.{zeros_at}
use Rattle.matching.specs.Occurrence.{View, SentenceIn, OccursIn, at}
use Rattle.matching.specs.Rows.{level, Before, NotAfter}
use Rattle.matching.specs.Lists.{leftmost_in}
use Rattle.matching.specs.Steps.Settling.{Ready, Answered, Spare, Answer}
use Rattle.matching.proofs.Laws.Direction.{forwards}
use Rattle.matching.proofs.Laws.Greedy.{Run, start, run-append, run_done, run_split}
use Rattle.matching.specs.Searches.{EarliestIn}
use Rattle.matching.proofs.Laws.Extremes.{leftmost-front, front_unique}

pub take_zeros : (m n : ℕ) → m ≤ n → take m (replicate n 0) ≡ level m 0
take_zeros zero n h = refl
take_zeros (suc m) zero h = absurd (omega arith)
take_zeros (suc m) (suc n) h = ap (λ (l : List ℕ). 0 ∷ l) (take_zeros m n (omega arith))

-- the rows found so far, k of them, up to the one that is the marks
pub record Counted (g : Pattern) (u : View) (marks : List ℕ) (k : ℕ) : Type 0 where
  pub rows : List (List ℕ)
  pub run : Run (OccursIn g u) (Before g.count) (NotAfter g.count) (level g.count 0) rows (take g.count marks)
  pub size : length rows ≡ k
  pub below : k ≤ at marks 0
  pub inside : at marks 0 ≤ u.places
  pub spare : Spare g.count marks
  pub clear : SentenceIn g u marks

unfoldable pub counted_begin : (g : Pattern) (u : View) → g.count ≤ 16 → Counted g u (replicate 16 0) 0
counted_begin g u few = record { rows = []; run = rw (take_zeros g.count 16 few) start; size = refl; below = omega arith; inside = omega arith; spare = record { size = refl; rest = λ j _. zeros_at 16 j }; clear = λ x a b. absurd (omega (arith, zeros_at 16 (g.count - 1))) }

pub counted-few : {g : Pattern} {u : View} {marks : List ℕ} {k : ℕ} → Counted g u marks k → Ready g u.places → k ≤ 20000
counted-few C ok = omega (arith, C.below, C.inside, ok.short)

-- they are where the greedy list begins
pub counted_split : {g : Pattern} {u : View} {marks : List ℕ} {k : ℕ} (C : Counted g u marks k) → Ready g u.places → (R : List (List ℕ)) × (leftmost_in g u ≡ C.rows ++ R)
counted_split {g} {u} C ok = run_split (forwards g.count) (λ r o. o.size) C.run (leftmost-front g u ok.some)

pub counted_within : {g : Pattern} {u : View} {marks : List ℕ} {k : ℕ} → Counted g u marks k → Ready g u.places → k ≤ length (leftmost_in g u)
counted_within C ok = let s = counted_split C ok in omega (arith, ap length s.1, length-append C.rows s.0, C.size)

module _ {g : Pattern} {u : View} {marks : List ℕ} {k : ℕ} (C : Counted g u marks k) (ok : Ready g u.places) {a : Answer} (A : Answered g u marks a) where
  abbrev m : ℕ
  m = g.count

  pub step_row : a.found ≡ true → EarliestIn g u (take m marks) (take m a.places)
  unfolding Before NotAfter
  step_row e = let E = A.some e in record {
    hit = E.hit;
    past = λ j h. omega (arith, get_or-take m marks j 0 h, E.past j h);
    least = λ s o P. E.least s o (λ j h. omega (arith, get_or-take m marks j 0 h, P j h));
  }

  unfoldable pub counted_more : a.found ≡ true → Counted g u a.places (k + 1)
  unfolding Before
  counted_more e =
      let E = A.some e in
      let r = take m a.places in
      record {
        rows = C.rows ++ (r ∷ []);
        run = run-append C.run (step_row e);
        size = omega (arith, length-append C.rows (r ∷ []), C.size);
        below = omega (arith, C.below, E.past 0 ok.some, get_or-take m a.places 0 0 ok.some);
        inside = omega (arith, (E.hit.word 0 ok.some).inside, get_or-take m a.places 0 0 ok.some);
        spare = record { size = A.size e; rest = A.rest e };
        clear = λ x h l. E.hit.sentence x (omega (arith, get_or-take m a.places 0 0 ok.some)) (omega (arith, get_or-take m a.places (m - 1) 0 (omega (arith, ok.some))));
      }

  pub counted_less : a.found ≡ true → 20001 - at a.places 0 < 20001 - at marks 0
  unfolding Before
  counted_less e = let E = A.some e in
      omega (arith, ok.short, E.past 0 ok.some, (E.hit.word 0 ok.some).inside, get_or-take m a.places 0 0 ok.some)

  pub counted_all : a.found ≡ false → C.rows ≡ leftmost_in g u
  unfolding Before
  counted_all e = front_unique g u ok.some (run_done C.run (λ s o P. A.none e s o (λ j h. omega (arith, get_or-take m marks j 0 h, P j h))))

  pub counted_end : a.found ≡ false → k ≡ length (leftmost_in g u)
  counted_end e = sym C.size ∙ ap length (counted_all e)
