-- The slots of a pattern file, and the array of a slot's words. Assumes nothing.
use Prim.Native.Nat.{ℕ, ◌-◌, ◌<◌, ◌≤◌}
use native.Mathlib.Omega.{arith}
use mathlib.Core.List.{List, [], ◌∷◌, map}
use mathlib.Core.Path.{◌≡◌, refl, sym}
use lib.ListN.{length, get_or, take, get_or-map}
use Rattle.pattern.specs.declared.slot.Slot.{Slot}
use Rattle.pattern.specs.Patterns.{padded}
use Rattle.pattern.specs.Laws.Canonical.{padded_eight}
use Rattle.std.proofs.Common.{ext_get_or, Bool, true, false, ltb, replicate, length-take, get_or-take, ◌∙◌}
use borrow.Author.Tests.{ltb-false, ltb-true}
use lib.ListN.{get_or-append, get_or-replicate, get_or-eq_default}
use lib.Seq.{get_or-append_right}
use Rattle.format.specs.Bytes.{decimal, lines, parts, value}
use Rattle.format.specs.Patterns.{made_slot, read_slot}
use Rattle.format.specs.declared.names.Columns.{Columns}
use Rattle.format.specs.Steps.ClosedLines.{ClosedLine, OpenLine}

-- the slots that the lines show
abbrev pub slots_from : Columns → List ℕ → List Slot
slots_from c s = map made_slot (map (read_slot c) (lines s))

module _ (c : Columns) {s : List ℕ} where
  pub slots_next : {l t : List ℕ} → ClosedLine s l t → slots_from c s ≡ made_slot (read_slot c l) ∷ slots_from c t
  slots_next h = rw h.first

  pub slots_open : OpenLine s → slots_from c s ≡ []
  slots_open o = rw o.none

-- ---- the array of eight words

padded_at : (ws : List ℕ) (i : ℕ) → i < 8 → get_or (padded ws) i 0 ≡ get_or ws i 0
padded_at ws i h = go (ltb i (length ws)) refl
  where
    go : (x : Bool) → ltb i (length ws) ≡ x → get_or (padded ws) i 0 ≡ get_or ws i 0
    go true q =
        let k : i < length (take 8 ws) = omega (arith, length-take 8 ws, ltb-true i (length ws) q) in
        get_or-append (take 8 ws) (replicate (8 - length ws) 0) 0 i k ∙ get_or-take 8 ws i 0 h
    go false q =
        let k : length ws ≤ i = ltb-false i (length ws) q in
        let m : length (take 8 ws) ≤ i = omega (arith, length-take 8 ws) in
        let j : i - length (take 8 ws) < 8 - length ws = omega (arith, length-take 8 ws) in
        get_or-append_right (take 8 ws) (replicate (8 - length ws) 0) i 0 m ∙ get_or-replicate (8 - length ws) (i - length (take 8 ws)) 0 0 j ∙ sym (get_or-eq_default ws 0 k)

-- an array of the first eight words, and 0 where there are fewer
pub padded_from : (xs ws : List ℕ) → length xs ≡ 8 → ((i : ℕ) → i < 8 → get_or xs i 0 ≡ get_or ws i 0) → xs ≡ padded ws
padded_from xs ws h at = ext_get_or 0 xs (padded ws) (omega (arith, padded_eight ws)) (λ i l. let k : i < 8 = omega arith in at i k ∙ sym (padded_at ws i k))

-- the numbers between the commas
pub word_at : (s : List ℕ) (i : ℕ) → value (get_or (parts s 44) i []) ≡ get_or (map value (parts s 44)) i 0
unfolding value decimal
word_at s i = sym (get_or-map value (parts s 44) i [])
