-- A pattern as a file: what it shows, and that accepted patterns are printed as the same bytes exactly if they agree.
use Rattle.std.specs.Prelude.{ℕ, zero, suc, ◌≤◌, ◌<◌, ◌≡◌, refl, ◌↔◌, length, get_or, take, Ok, Err}
use Rattle.std.proofs.Common.{arith, sym, ◌∙◌, ap, subst, length-take, get_or-take}
use mathlib.Core.List.{List, [], ◌∷◌, map}
use Rattle.std.proofs.lemmas.List.{length-map}
use Rattle.std.proofs.Math.ListN.{get_or-map}
use Rattle.pattern.specs.declared.slot.Slot.{Slot}
use Rattle.pattern.specs.declared.Pattern.{Pattern}
use Rattle.pattern.specs.Patterns.{stated, no_slot, slot_at}
use Rattle.pattern.specs.Agree.{AgreeSlot, Agree}
use Rattle.pattern.specs.Typed.{TypedSlot, Typed}
use Rattle.pattern.specs.Accepted.{AcceptedSlot, Accepted}
use Rattle.pattern.specs.Stated.{SameStated}
use Rattle.pattern.specs.Tests.{Verdict, pattern_verdict}
use Rattle.pattern.specs.Laws.Agree.{agree_stated, same_agree}
use Rattle.pattern.specs.Laws.Accepting.{pattern-accepted}
use Rattle.pattern.specs.Laws.Stated.{stated-count, verdict_same}
use Rattle.format.specs.Patterns.{SlotLine}
use Rattle.format.specs.Shown.{PatternShows, Small, SmallSlot, SmallSlots, also, also_slot, lhw, lm, no_slots, none, showing, paper_order}
use Rattle.printing.specs.Printed.{written_by, pattern_written, pattern_printed, printed_by, line_of, lines_of, pattern_text}
use Rattle.format.specs.Laws.PatternShown.{Same, pattern_once}

-- ---- what a pattern's file shows

small_words : (n : ℕ) (ws : List ℕ) → ((k : ℕ) → get_or ws k 0 ≤ 65535) → Small (take n ws)
small_words zero ws h = none
small_words (suc n) [] h = none
small_words (suc n) (w ∷ ws) h = also (h zero) (small_words n ws (λ k. h (suc k)))

small_slot : {s : Slot} → TypedSlot s → AcceptedSlot s → SmallSlot (line_of s)
small_slot {s} z a = record {
  low = omega (arith, a.ordered, a.narrow);
  high = omega (arith, a.narrow);
  words = small_words s.count s.words z.word;
  some = λ e. omega (arith, a.some e, stated-count s z.eight a.few);
}

small_slots : (ss : List Slot) → ((j : ℕ) → j < length ss → SmallSlot (line_of (get_or ss j no_slot))) → SmallSlots (map line_of ss)
small_slots [] h = no_slots
small_slots (s ∷ ss) h = also_slot (h zero (omega arith)) (small_slots ss (λ j k. h (suc j) (omega arith)))

module _ {f : Pattern} (F : Typed f) (A : Accepted f) where
  pub lines-count : length (take f.count f.slots) ≡ f.count
  lines-count = let e = F.sixteen in let h = A.few in simp length-take (omega arith)

  pub line_at : (j : ℕ) → j < f.count → get_or (take f.count f.slots) j no_slot ≡ slot_at f j
  line_at j h = get_or-take f.count f.slots j no_slot h

  -- the file shows the span limits and the stated slots
  pub printed-shows : PatternShows (pattern_text f) f.least f.most (lines_of f)
  unfolding pattern_text
  printed-shows =
      showing {i = 0} {j = 1} {c = paper_order} {least = f.least} {most = f.most} {rs = lines_of f} lm lhw (omega (arith, A.ordered, A.most)) (omega (arith, A.most))
      (small_slots (take f.count f.slots) (λ j h. let k : j < f.count = omega (arith, lines-count) in rw (line_at j k) (small_slot (F.slot j (omega (arith, A.few))) (A.slot j k))))

-- ---- the same bytes

-- a line has the slot's gap, mark and words
line_agree : {s u : Slot} → line_of s ≡ line_of u → AgreeSlot s u
line_agree {s} {u} e = record {
  low = ap (λ (r : SlotLine). r.low) e;
  high = ap (λ (r : SlotLine). r.high) e;
  excluding = ap (λ (r : SlotLine). r.excluding) e;
  words = λ w. let same : stated s ≡ stated u = ap (λ (r : SlotLine). r.words) e in rw same (λ m. m, λ m. m);
}

agree_line : {s u : Slot} → AgreeSlot s u → stated s ≡ stated u → line_of s ≡ line_of u
agree_line a e = rw (a.low, a.high, a.excluding, e)

lines_same : (ss us : List Slot) → length ss ≡ length us → ((j : ℕ) → j < length ss → line_of (get_or ss j no_slot) ≡ line_of (get_or us j no_slot)) → map line_of ss ≡ map line_of us
lines_same [] [] e h = refl
lines_same [] (u ∷ us) e h = absurd (omega arith)
lines_same (s ∷ ss) [] e h = absurd (omega arith)
lines_same (s ∷ ss) (u ∷ us) e h =
    ap (λ (r : SlotLine). r ∷ map line_of ss) (h zero (omega arith)) ∙ ap (λ (rs : List SlotLine). line_of u ∷ rs) (lines_same ss us (omega arith) (λ j k. h (suc j) (omega arith)))

module _ {f g : Pattern} (F : Typed f) (G : Typed g) (A : Accepted f) (B : Accepted g) where
  -- patterns that agree have the same lines
  agree_lines : Agree f g → lines_of f ≡ lines_of g
  agree_lines a = lines_same (take f.count f.slots) (take g.count g.slots) (lines-count F A ∙ a.count ∙ sym (lines-count G B)) (λ j h.
      let k : j < f.count = omega (arith, lines-count F A) in
      let l : j < g.count = omega (arith, a.count) in
      ap line_of (line_at F A j k) ∙ agree_line (a.slot j k) (agree_stated F G A B a j k) ∙ ap line_of (sym (line_at G B j l)))

  -- and the other way round
  lines_agree : f.least ≡ g.least → f.most ≡ g.most → lines_of f ≡ lines_of g → Agree f g
  lines_agree least most e = record {
    count = count;
    least = least;
    most = most;
    slot = λ j h. line_agree (sym (ap line_of (line_at F A j h)) ∙ sym (at f j) ∙ ap (λ (rs : List SlotLine). get_or rs j (line_of no_slot)) e ∙ at g j ∙ ap line_of (line_at G B j (omega (arith, count))));
  }
    where
      count : f.count ≡ g.count
      count = sym (lines-count F A) ∙ sym (length-map (take f.count f.slots) line_of) ∙ ap (λ (rs : List SlotLine). length rs) e ∙ length-map (take g.count g.slots) line_of ∙ lines-count G B

      at : (p : Pattern) (j : ℕ) → get_or (lines_of p) j (line_of no_slot) ≡ line_of (get_or (take p.count p.slots) j no_slot)
      at p j = get_or-map line_of (take p.count p.slots) j no_slot

  -- two accepted patterns print the same bytes exactly when they agree
  pub same_bytes : (pattern_text f ≡ pattern_text g) ↔ Agree f g
  unfolding pattern_text
  same_bytes = (
    λ e. let once : Same f.least f.most (lines_of f) g.least g.most (lines_of g) = pattern_once (subst (λ (s : List ℕ). PatternShows s f.least f.most (lines_of f)) e (printed-shows F A)) (printed-shows G B) in
        lines_agree once.least_is once.most_is once.slots_are,
    λ a. rw (a.least, a.most, agree_lines a),
  )

-- ---- entries past the stated numbers are not looked at: patterns that state the same are written alike

module _ {f g : Pattern} (F : Typed f) (G : Typed g) (same : SameStated f g) where
  text_same : pattern_verdict f ≡ Ok tt → pattern_text f ≡ pattern_text g
  text_same e = (same_bytes F G ((pattern-accepted f).0 e) ((pattern-accepted g).0 (sym (verdict_same same) ∙ e))).1 (same_agree same)

  by_verdict : (v : Verdict) → pattern_verdict f ≡ v → (room : ℕ) (out : List ℕ)
      → (printed_by v (length (pattern_text f)) room ≡ printed_by v (length (pattern_text g)) room)
      × (written_by (printed_by v (length (pattern_text f)) room) (pattern_text f) out ≡ written_by (printed_by v (length (pattern_text g)) room) (pattern_text g) out)
  by_verdict (Err why) e room out = (refl, refl)
  by_verdict (Ok tt) e room out = let t = text_same e in (rw t, rw t)

  -- the answer, and what the list then holds
  pub written_same : (out : List ℕ) → (pattern_printed f (length out) ≡ pattern_printed g (length out)) × (pattern_written f out ≡ pattern_written g out)
  written_same out = rw (← (verdict_same same)) (by_verdict (pattern_verdict f) refl (length out) out)
