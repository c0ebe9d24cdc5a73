-- What owning a pattern tells of its arrays: their lengths, and that every word has 16 bits. And the words that a count states, and a file that
-- is written whole.
use Rattle.std.proofs.Common.{ℕ, zero, suc, ◌<◌, ◌≤◌, min, ◌≡◌, refl, sym, ap, ◌∙◌, List, [], ◌∷◌, ◌++◌, length, get_or, take, drop, replicate, take_all, le-ltb, Result, Ok, arith}
use Rattle.std.proofs.lemmas.List.{length-replicate, take_min}
use lib.Seq.{take_at}
use mir.Val.{Val}
use mir.Syntax.{w16}
use base.Fml.{Fml}
use denote.Array.{each}
use denote.Shadow.{shadow}
use denote.Laws.{Is}
use borrow.Author.Rules.{elem_Fits}
use Rattle.basics.specs.Writing.{Writes}
use Rattle.basics.specs.Laws.Writing.{overlaid_short}
use Rattle.printing.specs.Printed.{pattern_text, pattern_printed, pattern_written, written_by}
use Rattle.printing.specs.Laws.Size.{printed-size}
use Rattle.pattern.specs.Laws.Accepting.{pattern-accepted}
use Rattle.pattern.specs.Tests.{pattern_verdict}
use Rattle.pattern.specs.declared.refusal.Refusal.{Refusal}
use Rattle.pattern.specs.declared.slot.Slot.{Slot}
use Rattle.pattern.specs.declared.Pattern.{Pattern}
use Rattle.pattern.specs.Patterns.{no_slot}
use Rattle.pattern.specs.Typed.{TypedSlot, Typed}
use Rattle.pattern.specs.contracts.slot.Slot as the-slot
use Rattle.pattern.specs.contracts.Pattern as the-pattern

-- what owning the elements tells of one of them
each_at : (X : Type 0) (f : X → List Val → Fml) (xs : List X) (us : List Val) (i : ℕ) (d : X) → i < length xs → shadow (each X f xs us) → (u : Val) × shadow (f (get_or xs i d) (u ∷ []))
each_at X f [] us i d h p = absurd (omega arith)
each_at X f (x ∷ xs) [] i d h p = absurd p
each_at X f (x ∷ xs) (u ∷ us) zero d h p = (u, p.0)
each_at X f (x ∷ xs) (u ∷ us) (suc i) d h p = each_at X f xs us i d (omega arith) p.1

slot-typed : (s : Slot) (vs : List Val) → Is the-slot.the_row s vs → TypedSlot s
slot-typed s vs g = record {
  eight = g.1.1.0.1.0.1;
  word = λ k. let h = (elem_Fits w16 w16 s.words g.1.1.0.0 k g.1.1.0.1.1 tt).fits in omega (arith, h);
}

-- of a pattern that a function takes by value
pub pattern-typed : (f : Pattern) (vs : List Val) → Is the-pattern.the_row f vs → Typed f
pattern-typed f vs g =
    let long : length f.slots ≡ 16 = g.1.1.0.1.0.1 in
    record {
      sixteen = long;
      slot = λ j h. let e = each_at Slot the-slot.the_row.own_val f.slots g.1.1.0.0 j no_slot (omega arith) g.1.1.0.1.1 in slot-typed _ (e.0 ∷ []) e.1;
    }

-- the first `count` of some words, where there are so many
pub stated_whole : (ws : List ℕ) (count m i : ℕ) → m ≡ min count (length ws) → length (take m ws) ≤ i → take i (take m ws) ≡ take count ws
stated_whole ws count m i e h = take_all i (take m ws) h ∙ ap (λ (n : ℕ). take n ws) e ∙ take_min count ws

-- an accepted pattern's file, written to a list that has room for any
module _ {f : Pattern} (F : Typed f) (fine : pattern_verdict f ≡ Ok tt) {after : List ℕ} {n : ℕ} (w : Writes (pattern_text f) (replicate 916 0) 0 after n) where
  whole : n ≡ length (pattern_text f)
  whole = omega (arith, w.end, printed-size F ((pattern-accepted f).0 fine), length-replicate {A = ℕ} 916 0)

  held : take n after ≡ pattern_text f
  held =
      ap (take n) (w.contents ∙ overlaid_short (pattern_text f) (replicate 916 0) (omega (arith, printed-size F ((pattern-accepted f).0 fine), length-replicate {A = ℕ} 916 0)))
      ∙ take_at (pattern_text f) (drop (length (pattern_text f)) (replicate 916 0)) n (sym whole)

  size_is : (room : ℕ) → n ≤ room → pattern_printed f room ≡ Ok (length (pattern_text f))
  size_is room h = rw (fine, le-ltb room (length (pattern_text f)) (omega (arith, whole))) refl

  pub printed_whole : (room : ℕ) → n ≤ room → ◌≡◌ {A = Result ℕ Refusal} (Ok n) (pattern_printed f room)
  printed_whole room h = ap (λ (k : ℕ). Ok k) whole ∙ sym (size_is room h)

  pub written_whole : (copied out : List ℕ) → n ≤ length out → copied ≡ take n after → copied ++ drop n out ≡ pattern_written f out
  written_whole copied out h e =
      ap (λ (l : List ℕ). l ++ drop n out) (e ∙ held)
      ∙ ap (λ (k : ℕ). pattern_text f ++ drop k out) whole
      ∙ sym (ap (λ (r : Result ℕ Refusal). written_by r (pattern_text f) out) (size_is (length out) h))
