-- What the runs over a text are lent: the windows that it is parted into, a sentence or the places that a row can span, and the rows that
-- start there. Assumes nothing.
use Rattle.std.proofs.Common.{◌≡◌, ℕ, zero, suc, ◌+◌, ◌-◌, ◌*◌, ◌<◌, ◌≤◌, min, true, false, ltb, List, [], length, get_or, sym, refl, ap, ◌∙◌, true≢false, arith, ne_eqb}
use Rattle.std.specs.Borrow.{Bor}
use mathlib.Core.Bool.{and-false}
use native.Mathlib.Decide.{dec_lt}
use Rattle.pattern.specs.declared.Pattern.{Pattern}
use Rattle.matching.specs.Occurrence.{View}
use Rattle.matching.specs.Occurrences.{starting_in}
use Rattle.basics.specs.Choice.{when}
use Rattle.basics.specs.Laws.Choice.{is_false}
use Rattle.matching.specs.Branches.{stands, branches, ways}
use Rattle.matching.specs.Spans.{width, horizon, limit, least}
use Rattle.matching.proofs.Laws.Branches.{length-branches, tree}
use Rattle.matching.proofs.Laws.Cover.{starting_each, starting_all}
use Rattle.matching.proofs.Laws.Sentences.{horizon_is, horizon_past, horizon_inside, horizon_same}
use Rattle.counting.specs.declared.gaps.Outline.{Outline}
use Rattle.counting.specs.declared.tables.Tables.{Tables}
use Rattle.counting.specs.declared.window.Window.{Window}
use Rattle.counting.specs.Steps.Inputs.{Input}
use Rattle.counting.specs.Steps.Fits.{Fitted}
use Rattle.counting.specs.Steps.Sentences.{Horizons}
use Rattle.counting.specs.Laws.Runs.{length_empty}
use Rattle.counting.specs.Steps.Plans.{unbound, Outlined, Plan, PlanOf, Within, sentence_at, start_at}
use Rattle.counting.specs.Steps.Rows.{size, stop_at}
use Rattle.counting.proofs.Distances.{span_some, span-few, unbound-spans}

-- the tables of a pattern and a view are a plan
abbrev pub planned : {f : Pattern} {v : View} {o : Outline} {F E : Bor (List ℕ)} → Input f v → Outlined f v.places o → Fitted f v F.now → Horizons v E.now
    → Plan (record { slots = f.count; places = v.places; outline = o; fits = F; lasts = E })
planned {f} {v} ok o fit lasts = record {
  slots = f.slots;
  least = f.least;
  most = f.most;
  fits = v.fits;
  ends = v.ends;
  handed = record { input = ok; outlined = o; table = fit; horizons = lasts };
}

module _ {f : Pattern} {v : View} {t : Tables} (p : PlanOf f v t) where
  pub slots_of : t.slots ≡ f.count
  slots_of = ap (λ (x : Pattern). x.count) p.pattern

  pub places_of : t.places ≡ v.places
  places_of = ap (λ (x : View). x.places) p.view

-- ---- the windows

-- an entry of the table of horizons is a place past its index
pub last_inside : {v : View} {E : List ℕ} → Horizons v E → {i e : ℕ} → i < v.places → e ≡ get_or E i 0 → (i < e) × (e ≤ v.places)
last_inside {v} h {i} l d =
    let inside : i + 1 ≤ v.places = omega arith in
    (omega (arith, h.last i l, horizon_past v inside), omega (arith, h.last i l, horizon_inside v inside))

-- both kinds of windows lie in the text
module _ {t : Tables} (g : Plan t) {i : ℕ} (h : i < t.places) where
  pub last_of : (i < get_or t.lasts.now i 0) × (get_or t.lasts.now i 0 ≤ t.places)
  last_of = last_inside g.handed.horizons h refl

  pub sentence_within : {w : Window} → w ≡ sentence_at i (get_or t.lasts.now i 0) → Within t.places w
  sentence_within e = rw e record { inside = omega (arith, last_of); starts = omega arith }

  -- the sentence's end
  pub sentence_next : {w : Window} → w ≡ sentence_at i (get_or t.lasts.now i 0) → i + w.places ≡ get_or t.lasts.now i 0
  sentence_next e = rw e (omega (arith, last_of))

  -- the next sentence is further on, and still in the text
  pub sentence_past : {w : Window} → w ≡ sentence_at i (get_or t.lasts.now i 0) → (i < i + w.places) × (i + w.places ≤ t.places) × (t.places ≤ 20000)
  sentence_past e = let short = g.handed.input.short in (omega (arith, sentence_next e, last_of), omega (arith, sentence_next e, last_of), short)

  pub start_within : {w : Window} → w ≡ start_at i (min t.outline.span (get_or t.lasts.now i 0 - i)) (i + t.outline.least) → Within t.places w
  start_within e =
      let some = span_some g.handed.input.pattern g.handed.outlined.widest in
      rw e record { inside = omega (arith, last_of); starts = omega (arith, last_of) }

  pub start_few : {w : Window} → w ≡ start_at i (min t.outline.span (get_or t.lasts.now i 0 - i)) (i + t.outline.least) → w.places ≤ 961
  start_few e = rw e (omega (arith, span-few g.handed.input.pattern g.handed.outlined.widest))

module _ (f : Pattern) {i e : ℕ} (l : i ≤ e) where
  pub size-sentence : size f (sentence_at i e) 0 ≡ e - i
  unfolding size
  size-sentence = omega arith

  pub stop-sentence : (j : ℕ) → stop_at f (sentence_at i e) j ≡ e + 1
  unfolding stop_at size
  stop-sentence j = omega arith

module _ (f : Pattern) (v : View) (i k span from : ℕ) (es : span ≡ width f) {e : ℕ} (ee : e ≡ horizon v (i + 1)) (ek : k ≡ min span (e - i)) where
  pub stop_start : (j : ℕ) → stop_at f (start_at i k from) j ≡ limit f v (i + 1) j
  unfolding stop_at size limit
  stop_start j = omega arith

  pub from_start : from ≡ i + f.least → from ≡ least f (i + 1)
  unfolding least
  from_start q = omega arith

-- ---- no row starts where the first slot does not fit

module _ (f : Pattern) (v : View) (p : ℕ) (off : v.fits 0 p ≡ false) where
  ways_off : (k : ℕ) (stop : ℕ → ℕ) (from : ℕ) → ways f v stop from k 0 p ≡ 0
  unfolding ways when stands
  ways_off zero stop from = rw (off, and-false (ltb p (stop 0)))
  ways_off (suc k) stop from = rw (off, and-false (ltb p (stop 0)))

  branches_off : (k : ℕ) (stop : ℕ → ℕ) (from : ℕ) → branches f v stop from k 0 p ≡ []
  branches_off k stop from = length_empty (branches f v stop from k 0 p) (omega (arith, length-branches f v stop from k 0 p, ways_off k stop from))

-- the table says where it does not
pub off_fits : {f : Pattern} {v : View} → Input f v → {T : List ℕ} → Fitted f v T → (i : ℕ) → i < v.places → (get_or T i 0 ≡ 1 → ⊥) → v.fits 0 (i + 1) ≡ false
off_fits {f} ok {T} fit i inside off =
    let some = ok.pattern.some in
    let z : 0 * 20000 + i ≡ i = omega arith in
    sym (rw (z, ne_eqb (get_or T i 0) 1 off) at (fit.fit 0 (omega arith) i inside))

pub starting_off : {f : Pattern} {v : View} → Input f v → (p : ℕ) → 1 ≤ p → p ≤ v.places → v.fits 0 p ≡ false → starting_in f v p ≡ []
unfolding tree
starting_off {f} {v} ok p one inside off =
    starting_each f v ok.pattern.some p one inside ok.pattern.least ∙ branches_off f v p off (f.count - 1) (limit f v p) (least f p)

-- ---- the rows of a sentence, from the index i on to its end e

module _ {f : Pattern} {v : View} (ok : Input f v) (spans : unbound f v.places ≡ true) {i e : ℕ} (inside : i < v.places) (ee : e ≡ horizon v (i + 1)) where
  -- those from a place of the sentence: they stop at its end
  inner : (k : ℕ) → i ≤ k → k < v.places → (e < v.places → k + 1 < e) → starting_in f v (k + 1) ≡ branches f v (λ j. e + 1) 0 (f.count - 1) 0 (k + 1)
  unfolding tree
  inner k a b c =
      let s = unbound-spans f v.places spans in
      let h : horizon v (k + 1) ≡ e = horizon_same v {p = i + 1} (omega arith) (omega arith) (λ l. rw (← ee) (c (rw ee l))) ∙ sym ee in
      starting_all f v ok.pattern.some (k + 1) (omega arith) (omega arith) s.0 s.1
      ∙ ap (λ (x : ℕ). branches f v (λ j. x + 1) 0 (f.count - 1) 0 (k + 1)) h

  -- none starts where the sentence ends
  final : (k : ℕ) → k + 1 ≡ e → e < v.places → starting_in f v (k + 1) ≡ branches f v (λ j. e + 1) 0 (f.count - 1) 0 (k + 1)
  final k a b =
      let l : i + 1 ≤ v.places = omega arith in
      let stop = (horizon_is v l).stop (omega arith) in
      let end : v.ends (k + 1) ≡ true = rw (a, ee) stop.1 in
      let some : 0 < f.count = ok.pattern.some in
      let off : v.fits 0 (k + 1) ≡ false = is_false (v.fits 0 (k + 1)) (λ t. true≢false (sym end ∙ ok.no_end.unfit 0 some (k + 1) t)) in
      starting_off ok (k + 1) (omega arith) (omega arith) off ∙ sym (branches_off f v (k + 1) off (f.count - 1) (λ j. e + 1) 0)

  pub sentence-rows : (k : ℕ) → i ≤ k → k < e → starting_in f v (k + 1) ≡ branches f v (λ j. e + 1) 0 (f.count - 1) 0 (k + 1)
  sentence-rows k a b =
      let l : i + 1 ≤ v.places = omega arith in
      let in-text : e ≤ v.places = omega (arith, horizon_inside v l) in
      elim (dec_lt (k + 1) e) [
        | yes c ↦ inner k a (omega arith) (λ _. c)
        | no c ↦ elim (dec_lt e v.places) [
          | yes d ↦ final k (omega arith) d
          | no d ↦ inner k a (omega arith) (λ x. absurd (d x))
        ]
      ]

  pub sentence-count : (k : ℕ) → i ≤ k → k < e → length (starting_in f v (k + 1)) ≡ ways f v (λ j. e + 1) 0 (f.count - 1) 0 (k + 1)
  sentence-count k a b = ap length (sentence-rows k a b) ∙ length-branches f v (λ j. e + 1) 0 (f.count - 1) 0 (k + 1)
