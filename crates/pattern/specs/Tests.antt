-- The tests 1 to 6 of document 01, "Turned away", in their order, 2 as document 02, Job 2, has it, and 16 after 5 (Job 3): the first that
-- applies refuses.
use Rattle.std.specs.Prelude.{ℕ, zero, suc, ◌+◌, Bool, not, ltb, eqb, Result, Ok, Err, ⊤}
use Rattle.basics.specs.Choice.{pick}
use Rattle.pattern.specs.declared.slot.Slot.{Slot}
use Rattle.pattern.specs.declared.Pattern.{Pattern}
use Rattle.pattern.specs.declared.refusal.Refusal.{Refusal}
use Rattle.pattern.specs.declared.refusal.Refusal.TheVariants.{SlotCount, WordCount, ZeroWord, Gap, Span, TextLength, WordOrder}
use Rattle.pattern.specs.Patterns.{stated, lists, slot_at}
use Rattle.pattern.specs.Words.{rises}

-- what tests come to: accepted, or the refusal
abbrev pub Verdict : Type 0
Verdict = Result ⊤ Refusal

-- refused where the test applies, else as the later tests say
abbrev pub refuse : Bool → Refusal → Verdict → Verdict
refuse applies why later = pick applies (Err why) later

-- the first verdict that refuses
abbrev pub and_then : Verdict → Verdict → Verdict
and_then (Ok tt) later = later
and_then (Err why) later = Err why

-- the widest gap before slot number k
abbrev pub widest_gap : ℕ → ℕ
widest_gap k = pick (eqb k 1) 0 63

-- the fewest words of a slot: an excluding slot may have none
abbrev pub fewest_words : Bool → ℕ
fewest_words excluding = pick excluding 0 1

-- 2, 3 and 4, of slot number k
unfoldable pub slot_verdict : ℕ → Slot → Verdict
slot_verdict k s =
    refuse (ltb s.count (fewest_words s.excluding)) (WordCount k)
    (refuse (ltb 8 s.count) (WordCount k)
    (refuse (lists s 0) (ZeroWord k)
    (refuse (ltb s.high s.low) (Gap k)
    (refuse (ltb (widest_gap k) s.high) (Gap k) (Ok tt)))))

-- 16, of slot number k: its words do not rise strictly
abbrev pub order_verdict : ℕ → Slot → Verdict
order_verdict k s = refuse (not (rises (stated s))) (WordOrder k) (Ok tt)

-- tests of a slot, slot by slot, of the n slots from slot j on
unfoldable pub slots_verdict : (ℕ → Slot → Verdict) → Pattern → ℕ → ℕ → Verdict
slots_verdict test f j zero = Ok tt
slots_verdict test f j (suc n) = and_then (test (j + 1) (slot_at f j)) (slots_verdict test f (j + 1) n)

-- 5
unfoldable pub span_verdict : ℕ → ℕ → Verdict
span_verdict least most =
    refuse (eqb least 0) Span
    (refuse (ltb most least) Span
    (refuse (ltb 20000 most) Span (Ok tt)))

-- 1 to 5
unfoldable pub limits_verdict : Pattern → Verdict
limits_verdict f =
    refuse (eqb f.count 0) SlotCount
    (refuse (ltb 16 f.count) SlotCount
    (and_then (slots_verdict slot_verdict f 0 f.count)
    (span_verdict f.least f.most)))

-- 1 to 5, then 16
unfoldable pub pattern_verdict : Pattern → Verdict
pattern_verdict f = and_then (limits_verdict f) (slots_verdict order_verdict f 0 f.count)

-- 1 to 5, 16, then 6, of a pattern and a text of n words
unfoldable pub input_verdict : Pattern → ℕ → Verdict
input_verdict f n = and_then (pattern_verdict f) (refuse (ltb 20000 n) TextLength (Ok tt))
