-- An accepted pattern's file has at most 916 bytes.
use Rattle.std.specs.Prelude.{ℕ, zero, suc, ◌-◌, ◌*◌, ◌≤◌, ◌<◌, ◌≡◌, Bool, true, false, get_or, take}
use native.Mathlib.Omega.{arith}
use mathlib.Core.List.{List, [], ◌∷◌, map}
use Rattle.std.proofs.Math.ListN.{length, length-append}
use Rattle.pattern.specs.declared.slot.Slot.{Slot}
use Rattle.pattern.specs.declared.Pattern.{Pattern}
use Rattle.pattern.specs.Patterns.{stated, no_slot, slot_at}
use Rattle.pattern.specs.Typed.{TypedSlot, Typed}
use Rattle.pattern.specs.Accepted.{AcceptedSlot, Accepted}
use Rattle.basics.specs.Laws.Digits.{few-digits, most-digits}
use Rattle.format.specs.Shown.{closed, digits, joined, mark_text, slot_text, paper_order}
use Rattle.printing.specs.Printed.{line_of, pattern_text, most_printed}
use Rattle.printing.specs.Laws.Printing.{digits_one, slot-length, file-length}
use Rattle.pattern.specs.Laws.Stated.{stated-count}
use Rattle.printing.specs.Laws.Printed.{line_at, lines-count}

joined-size : (ws : List ℕ) → length (joined (map digits ws) 44) ≤ 6 * length ws - 1
unfolding joined digits
joined-size [] = omega arith
joined-size (w ∷ []) = omega (arith, most-digits 4 w)
joined-size (w ∷ x ∷ ws) = omega (arith, most-digits 4 w, joined-size (x ∷ ws), length-append (digits w) (44 ∷ joined (map digits (x ∷ ws)) 44))

mark-size : (excluding : Bool) → length (mark_text excluding) ≤ 1
mark-size true = omega arith
mark-size false = omega arith

-- a bound of an accepted gap has at most two digits
two_digits : (n : ℕ) → n ≤ 63 → length (digits n) ≤ 2
unfolding digits
two_digits n h = few-digits 4 1 n (omega arith)

-- a slot's line has at most 55 bytes, the first slot's at most 53
line-size : {s : Slot} → TypedSlot s → AcceptedSlot s → length (closed (slot_text paper_order (line_of s) ∷ [])) ≤ 55
line-size {s} z a =
    omega (
      arith,
      slot-length s,
      two_digits s.low (omega (arith, a.ordered, a.narrow)),
      two_digits s.high a.narrow,
      mark-size s.excluding,
      joined-size (stated s),
      stated-count s z.eight a.few,
      a.few,
    )

first_size : {s : Slot} → TypedSlot s → AcceptedSlot s → s.high ≡ 0 → length (closed (slot_text paper_order (line_of s) ∷ [])) ≤ 53
first_size {s} z a e =
    omega (
      arith,
      slot-length s,
      digits_one s.low (omega (arith, a.ordered)),
      digits_one s.high (omega arith),
      mark-size s.excluding,
      joined-size (stated s),
      stated-count s z.eight a.few,
      a.few,
    )

lines-size : (ss : List Slot) → ((j : ℕ) → j < length ss → length (closed (slot_text paper_order (line_of (get_or ss j no_slot)) ∷ [])) ≤ 55)
    → length (closed (map (slot_text paper_order) (map line_of ss))) ≤ 55 * length ss
unfolding closed
lines-size [] h = omega arith
lines-size (s ∷ ss) h =
    let later = lines-size ss (λ j k. h (suc j) (omega arith)) in
    let rest = closed (map (slot_text paper_order) (map line_of ss)) in
    omega (arith, h zero (omega arith), later, length-append (slot_text paper_order (line_of s)) (10 ∷ rest), length-append (slot_text paper_order (line_of s)) (10 ∷ []))

module _ {f : Pattern} (F : Typed f) (A : Accepted f) where
  at_most : (j : ℕ) → j < f.count → length (closed (slot_text paper_order (line_of (slot_at f j)) ∷ [])) ≤ 55
  at_most j h = line-size (F.slot j (omega (arith, A.few))) (A.slot j h)

  slots-size : (ss : List Slot) → length ss ≡ f.count → ((j : ℕ) → j < f.count → get_or ss j no_slot ≡ slot_at f j) → length (closed (map (slot_text paper_order) (map line_of ss))) ≤ 878
  unfolding closed
  slots-size [] e at = omega arith
  slots-size (s ∷ ss) e at =
      let rest = closed (map (slot_text paper_order) (map line_of ss)) in
      let first : length (closed (slot_text paper_order (line_of s) ∷ [])) ≤ 53 = rw (at 0 (omega arith)) (first_size (F.slot 0 (omega arith)) (A.slot 0 (omega (arith, A.some))) A.first) in
      let later : length rest ≤ 55 * length ss = lines-size ss (λ j h. rw (at (suc j) (omega arith)) (at_most (suc j) (omega arith))) in
      omega (arith, A.few, first, later, length-append (slot_text paper_order (line_of s)) (10 ∷ rest), length-append (slot_text paper_order (line_of s)) (10 ∷ []))

  -- an accepted pattern's file has no more bytes
  pub printed-size : length (pattern_text f) ≤ most_printed
  unfolding digits
  printed-size =
      omega (
        arith,
        file-length f,
        most-digits 4 f.least,
        most-digits 4 f.most,
        slots-size (take f.count f.slots) (lines-count F A) (line_at F A),
      )
