-- Files that differ only in the order and repetition of a slot's words, within the limits of eight words and 60,000 bytes, are answered alike.
use Rattle.std.specs.Prelude.{ℕ, suc, ◌≤◌, ◌≡◌, refl, List, ◌∷◌, map, length}
use Rattle.std.proofs.Common.{sym, ◌∙◌, ap, le-ltb}
use Rattle.pattern.specs.declared.slot.Slot.{Slot}
use Rattle.pattern.specs.Patterns.{slot_of}
use Rattle.pattern.specs.Words.{sorted}
use Rattle.pattern.specs.Laws.Canonical.{canonical_of, sorted-set}
use Rattle.format.specs.Patterns.{SlotLine, made_slot, shown_pattern, judged, pattern_read}
use Rattle.format.specs.Shown.{AlikeLine, AlikeLines, PatternShows, also_line, no_line}
use Rattle.format.specs.Laws.PatternShown.{pattern-shown}

alike_made : {r q : SlotLine} → AlikeLine r q → made_slot r ≡ made_slot q
alike_made {r} {q} a =
    let same : slot_of r.low r.high r.excluding (sorted r.words) ≡ slot_of q.low q.high q.excluding (sorted q.words) =
    rw (a.low, a.high, a.excluding, sorted-set r.words q.words a.words) in
    canonical_of r.low r.high r.excluding r.words a.few.0
    ∙ same
    ∙ sym (canonical_of q.low q.high q.excluding q.words a.few.1)

alike_slots : {rs qs : List SlotLine} → AlikeLines rs qs → map made_slot rs ≡ map made_slot qs
alike_slots no_line = refl
alike_slots (also_line {q = q} {rs = rs} a e) = ap (λ (s : Slot). s ∷ map made_slot rs) (alike_made a) ∙ ap (λ (ss : List Slot). made_slot q ∷ ss) (alike_slots e)

alike_count : {rs qs : List SlotLine} → AlikeLines rs qs → length rs ≡ length qs
alike_count no_line = refl
alike_count (also_line a e) = ap suc (alike_count e)

-- two files of at most 60,000 bytes that differ only in the order and repetition of a slot's words, within the limit of eight, are answered
-- alike: with the same pattern, or the same refusal
pub alike_read : {s t : List ℕ} {least most : ℕ} {rs qs : List SlotLine} → PatternShows s least most rs → PatternShows t least most qs → AlikeLines rs qs
    → length s ≤ 60000 → length t ≤ 60000 → pattern_read s ≡ pattern_read t
unfolding pattern_read
alike_read {s} {t} {least} {most} {rs} {qs} a b alike h k =
    let same : shown_pattern least most rs ≡ shown_pattern least most qs = rw (alike_slots alike, alike_count alike) in
    rw (le-ltb 60000 (length s) h, le-ltb 60000 (length t) k, (pattern-shown s least most rs).1 a, (pattern-shown t least most qs).1 b) (ap judged same)
