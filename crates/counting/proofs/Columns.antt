-- The column: how many occurrences start at each place, by a run for each sentence or for each place. Assumes nothing.
use Rattle.std.proofs.Common.{◌≡◌, ℕ, ◌+◌, ◌-◌, ◌^◌, ◌<◌, ◌≤◌, min, true, List, ◌++◌, length, get_or, take, set, replicate, sum, sym, refl, ap, ◌∙◌, arith, length-set, length-take, get_or-set_other, get_or-set_same, get_or-take, get_or-append-add, ext_get_or, below_more}
use mathlib.Core.Path.{fun_ext}
use native.Mathlib.Decide.{dec_lt}
use lib.ListN.{length-replicate, get_or-append}
use Rattle.pattern.specs.declared.Pattern.{Pattern}
use Rattle.matching.specs.Occurrence.{View, plain}
use Rattle.matching.specs.Occurrences.{occurrences_in, starting_in}
use Rattle.basics.specs.Laws.Arrays.{zeros_at}
use Rattle.basics.specs.Laws.Sums.{total_same}
use Rattle.matching.specs.Branches.{ways}
use Rattle.matching.specs.Spans.{width, horizon, limit, least}
use Rattle.matching.proofs.Laws.Cover.{count_each, tally-places}
use Rattle.matching.proofs.Laws.Sentences.{horizon_past}
use Rattle.counting.specs.declared.window.Window.{Window}
use Rattle.counting.specs.Steps.Inputs.{Input}
use Rattle.counting.specs.Steps.Numbers.{val}
use Rattle.counting.specs.Laws.Bound.{tally_fits}
use Rattle.counting.specs.Steps.Fits.{Fitted}
use Rattle.counting.specs.Steps.Plans.{unbound, sentence_at, start_at}
use Rattle.counting.specs.Steps.Rows.{Blank, size, stop_at, Row, Column}
use Rattle.counting.specs.Starts.{column}
use Rattle.counting.specs.Laws.Starts.{column-length, column_at}
use Rattle.counting.proofs.Loops.{sum_total}
use Rattle.counting.proofs.Parting.{size-sentence, stop-sentence, stop_start, from_start, off_fits, starting_off, sentence-count}

-- ---- the column: done below i

pub record Filled (f : Pattern) (v : View) (N₀ : List ℕ) (i : ℕ) (N : List ℕ) : Type 0 where
  pub long : length N ≡ length N₀
  pub done : (k : ℕ) → k < i → val N k ≡ length (starting_in f v (k + 1))

pub filled_begin : {f : Pattern} {v : View} {N : List ℕ} → Filled f v N 0 N
filled_begin = record { long = refl; done = λ k h. absurd (omega arith) }

-- the numbers of a list that has come back from the index i on
module _ (N X : List ℕ) {i : ℕ} (a : i ≤ length N) where
  joined_before : (k : ℕ) → k < i → val (take i N ++ X) k ≡ val N k
  joined_before k h = get_or-append (take i N) X 0 k (omega (arith, length-take i N)) ∙ get_or-take i N k 0 h

  joined-from : (k : ℕ) → val (take i N ++ X) (i + k) ≡ val X k
  joined-from k =
      let d : length (take i N) ≡ i = omega (arith, length-take i N) in
      rw d at (get_or-append-add (take i N) X k 0)

module _ {f : Pattern} {v : View} {N₀ : List ℕ} {i : ℕ} {N : List ℕ} (s : Filled f v N₀ i N) where
  pub column_done : v.places ≤ i → Column f v N
  column_done h = record { starts = λ k x. s.done k (omega arith) }

  -- by a run over a sentence
  module _ (ok : Input f v) (spans : unbound f v.places ≡ true) (room : v.places < length N₀) (inside : i < v.places) {e : ℕ} (ee : e ≡ horizon v (i + 1)) where
    sentence_value : {X : List ℕ} → Row f v (sentence_at i e) (f.count - 1) 0 X → (k : ℕ) → i ≤ k → k < e → val X (k - i) ≡ length (starting_in f v (k + 1))
    sentence_value r k a b =
        let l : i ≤ e = omega arith in
        let z : i + (k - i) + 1 ≡ k + 1 = omega arith in
        let x : stop_at f (sentence_at i e) ≡ (λ j. e + 1) = fun_ext (stop-sentence f l) in
        rw (z, x) at (r.row (k - i) (omega (arith, size-sentence f l))) ∙ sym (sentence-count ok spans inside ee k a b)

    pub filled_more : {w : Window} → w ≡ sentence_at i e → {X N' : List ℕ} → Row f v w (f.count - 1) 0 X → N' ≡ take i N ++ X
        → length N' ≡ length N → Filled f v N₀ e N'
    filled_more ew {X} r el same =
        let a : i ≤ length N = omega (arith, s.long) in
        record {
          long = same ∙ s.long;
          done = λ k h. rw el (elim (dec_lt k i) [
            | yes c ↦ joined_before N X a k c ∙ s.done k c
            | no c ↦ let d : i + (k - i) ≡ k = omega arith in
                rw d at (joined-from N X a (k - i)) ∙ sentence_value (rw ew at r) k (omega arith) h
          ]);
        }

-- ---- from zeros, by a run for each first place

pub record Filling (f : Pattern) (v : View) (N₀ : List ℕ) (i : ℕ) (N : List ℕ) : Type 0 where
  pub filled : Filled f v N₀ i N
  pub todo : (k : ℕ) → i ≤ k → val N k ≡ 0

module _ {f : Pattern} {v : View} {N₀ : List ℕ} {i : ℕ} {N : List ℕ} (s : Filling f v N₀ i N) where
  filling_set : v.places < length N₀ → i < v.places → (x : ℕ) → x ≡ length (starting_in f v (i + 1)) → Filling f v N₀ (i + 1) (set N i x)
  filling_set room h x e =
      let a = s.filled.long in
      record {
        filled = record {
          long = simp length-set a;
          done = below_more _ i (λ k y. get_or-set_other N i k x 0 (λ q. omega arith) ∙ s.filled.done k y) (get_or-set_same N i x 0 (omega arith) ∙ e);
        };
        todo = λ k y. get_or-set_other N i k x 0 (λ q. omega arith) ∙ s.todo k (omega arith);
      }

  module _ (ok : Input f v) (room : v.places < length N₀) (inside : i < v.places) where
    starting : length (starting_in f v (i + 1)) ≡ ways f v (limit f v (i + 1)) (least f (i + 1)) (f.count - 1) 0 (i + 1)
    starting = count_each f v ok.pattern.some (i + 1) (omega arith) (omega arith) ok.pattern.least

    pub filling_more : {e span from : ℕ} {w : Window} {X : List ℕ} → span ≡ width f → 1 ≤ span → e ≡ horizon v (i + 1) → from ≡ i + f.least
        → w ≡ start_at i (min span (e - i)) from → Row f v w (f.count - 1) 0 X → Filling f v N₀ (i + 1) (set N i (get_or X 0 0))
    unfolding size
    filling_more {e} {span} {from} es pos ee ef ew r =
        let l : i + 1 ≤ v.places = omega arith in
        let z : i + 0 + 1 ≡ i + 1 = omega arith in
        let k = min span (e - i) in
        let x : stop_at f (start_at i k from) ≡ limit f v (i + 1) = fun_ext (stop_start f v i k span from es ee refl) in
        let y = from_start f v i k span from es ee refl ef in
        filling_set room inside _ (rw (z, x, y) at ((rw ew at r).row 0 (omega (arith, horizon_past v l))) ∙ sym starting)

    -- no row starts where the first slot does not fit
    pub filling_skip : {T : List ℕ} → Fitted f v T → (get_or T i 0 ≡ 1 → ⊥) → Filling f v N₀ (i + 1) N
    filling_skip fit off =
        let none = starting_off ok (i + 1) (omega arith) (omega arith) (off_fits ok fit i inside off) in
        record {
          filled = record {
            long = s.filled.long;
            done = below_more _ i s.filled.done (s.todo i (omega arith) ∙ sym (ap length none));
          };
          todo = λ k y. s.todo k (omega arith);
        }

-- ---- its sum is the tally

module _ {f : Pattern} {v : View} {N : List ℕ} (ok : Input f v) (room : v.places < length N) (c : Column f v N) where
  pub column-total : sum (take v.places N) ≡ length (occurrences_in f v)
  column-total =
      sum_total N v.places (omega arith)
      ∙ total_same v.places (val N) (λ p. length (starting_in f v p)) 0 1
      (λ i h. let a : 0 + i ≡ i = omega arith in let b : 1 + i ≡ i + 1 = omega arith in rw (a, b) (c.starts i h))
      ∙ sym (tally-places f v ok.pattern.some ok.pattern.least)

  pub column_fits : sum (take v.places N) < 2 ^ 128
  column_fits = rw column-total (tally_fits ok)

-- ---- its numbers are the column

module _ (f : Pattern) (t : List ℕ) {N : List ℕ} (c : Column f (plain f t) N) where
  pub column-numbers : length t ≤ length N → take (length t) N ≡ column f t
  unfolding starting_in
  column-numbers room =
      let size : length (take (length t) N) ≡ length t = omega (arith, length-take (length t) N) in
      ext_get_or 0 (take (length t) N) (column f t) (size ∙ sym (column-length f t))
      (λ i h.
      let l : i < length t = omega arith in
      get_or-take (length t) N i 0 l ∙ c.starts i l ∙ sym (column_at f t i l))

-- ---- new lists

pub blank_new : (space n : ℕ) → n < space → Blank n (replicate space 0)
blank_new space n h =
    let e = length-replicate {A = ℕ} space 0 in
    record { room = omega arith; zero = λ i. zeros_at space i }
