-- What was printed is read again, as an accepted pattern that agrees with what was printed.
use Rattle.std.specs.Prelude.{ℕ, ◌-◌, ◌≤◌, ◌<◌, ◌≡◌, refl, List, length, get_or, take, replicate}
use Rattle.std.proofs.Common.{arith, sym, ◌∙◌, ap, get_or-take, take_all}
use Rattle.std.proofs.lemmas.List.{length-map}
use Rattle.std.proofs.Math.ListN.{get_or-map, get_or-append}
use Rattle.pattern.specs.declared.slot.Slot.{Slot}
use Rattle.pattern.specs.declared.Pattern.{Pattern}
use Rattle.pattern.specs.Patterns.{stated, no_slot, slot_at, slot_of, padded}
use Rattle.pattern.specs.Stated.{SameSlot, SameStated}
use Rattle.pattern.specs.Words.{Rising}
use Rattle.pattern.specs.Agree.{Agree}
use Rattle.pattern.specs.Typed.{TypedSlot, Typed}
use Rattle.pattern.specs.Accepted.{AcceptedSlot, Accepted}
use Rattle.pattern.specs.Laws.Accepting.{pattern-accepted}
use Rattle.pattern.specs.Laws.Stated.{stated-count, verdict_same}
use Rattle.pattern.specs.Laws.Agree.{same_agree}
use Rattle.pattern.specs.Laws.Canonical.{canonical_of, padded_eight, sorted_same}
use Rattle.format.specs.Patterns.{made_slot, shown_pattern, pattern_read}
use Rattle.printing.specs.Printed.{line_of, lines_of, pattern_text}
use Rattle.format.specs.Laws.Limits.{slot_of-line}
use Rattle.format.specs.Laws.Reading.{accepted, pattern_read_lem}
use Rattle.printing.specs.Laws.Printed.{line_at, lines-count, printed-shows}
use Rattle.printing.specs.Laws.Size.{printed-size}

-- the slot of the printed line
module _ {s : Slot} (z : TypedSlot s) (a : AcceptedSlot s) (r : Rising (stated s)) where
  few-stated : length (stated s) ≤ 8
  few-stated = omega (arith, stated-count s z.eight a.few, a.few)

  line_made : made_slot (line_of s) ≡ slot_of s.low s.high s.excluding (stated s)
  line_made = canonical_of s.low s.high s.excluding (stated s) few-stated ∙ ap (slot_of s.low s.high s.excluding) (sorted_same r)

  word_kept : (k : ℕ) → k < s.count → get_or s.words k 0 ≡ get_or (padded (stated s)) k 0
  word_kept k h =
      let all = take_all 8 (stated s) few-stated in
      let inside : k < length (take 8 (stated s)) = rw all (omega (arith, stated-count s z.eight a.few)) in
      sym (get_or-take s.count s.words k 0 h)
      ∙ ap (λ (ws : List ℕ). get_or ws k 0) (sym all)
      ∙ sym (get_or-append (take 8 (stated s)) (replicate (8 - length (stated s)) 0) 0 k inside)

  -- states what the slot states
  line_same : SameSlot s (made_slot (line_of s))
  line_same = rw line_made (record { count = sym (stated-count s z.eight a.few); low = refl; high = refl; excluding = refl; word = word_kept; long = z.eight ∙ sym (padded_eight (stated s)) })

-- what reading the pattern's file gives
pub record ReadBack (f : Pattern) : Type 0 where
  pub pattern : Pattern
  pub read : pattern_read (pattern_text f) ≡ accepted pattern
  pub limits : Accepted pattern
  pub states : SameStated f pattern
  pub agrees : Agree f pattern

module _ {f : Pattern} (F : Typed f) (A : Accepted f) where
  -- the pattern that the file shows
  abbrev shown : Pattern
  shown = shown_pattern f.least f.most (lines_of f)

  lines_long : length (lines_of f) ≡ f.count
  lines_long = length-map (take f.count f.slots) line_of ∙ lines-count F A

  shown-slot : (j : ℕ) → j < f.count → slot_at shown j ≡ made_slot (line_of (slot_at f j))
  shown-slot j h =
      slot_of-line made_slot (lines_of f) (line_of no_slot) j (omega (arith, lines_long)) (omega (arith, A.few))
      ∙ ap made_slot (get_or-map line_of (take f.count f.slots) j no_slot ∙ ap line_of (line_at F A j h))

  shown_same : SameStated f shown
  shown_same = record {
    count = sym lines_long;
    least = refl;
    most = refl;
    slot = λ j h. rw (shown-slot j h) (line_same (F.slot j (omega (arith, A.few))) (A.slot j h) (A.rising j h));
  }

  shown-accepted : Accepted shown
  shown-accepted = (pattern-accepted shown).0 (sym (verdict_same shown_same) ∙ (pattern-accepted f).1 A)

  -- reading what was printed returns an accepted pattern that agrees with it: it states the same
  pub read_back : ReadBack f
  read_back = record {
    pattern = shown;
    read = (pattern_read_lem (pattern_text f) shown).1 (record {
      short = omega (arith, printed-size F A);
      least = f.least;
      most = f.most;
      slots = lines_of f;
      shows = printed-shows F A;
      is = refl;
      limits = shown-accepted;
    });
    limits = shown-accepted;
    states = shown_same;
    agrees = same_agree shown_same;
  }
