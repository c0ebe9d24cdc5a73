-- What each test of the reader tells of a pattern file. Assumes nothing.
use Rattle.std.specs.Prelude.{Err, Ok}
use Prim.Native.Nat.{ℕ, ◌≤◌, ◌<◌}
use native.Mathlib.Omega.{arith}
use mathlib.Core.Bool.{true, false}
use mathlib.Core.List.{List, map}
use mathlib.Core.Path.{◌≡◌, ◌∙◌, ap}
use lib.ListN.{length}
use borrow.Author.Tests.{le-ltb, lt-ltb}
use Rattle.pattern.specs.declared.refusal.Refusal.TheVariants.{FileLength, Names}
use Rattle.format.specs.Bytes.{ended, fields, lines}
use Rattle.format.specs.Names.{column, columns_of, least_name, most_name, slot_names, span_names}
use Rattle.format.specs.Steps.ValueLines.{slot_lines}
use Rattle.format.specs.Patterns.{from_names, from_slot_names, from_slots, from_values, judged, pattern_contents, pattern_answer, pattern_read, read_slot, shown_pattern, slot_values}
use Rattle.format.specs.declared.names.Columns.{Columns}
use Rattle.format.specs.Steps.ClosedLines.{ClosedLine, OpenLine, laid}
use Rattle.format.proofs.LineSteps.{laid_right, scan-count}

-- ---- the slots, with l the line of their names and t what follows it

module _ {s l t : List ℕ} (least most : ℕ) (h : ClosedLine s l t) (k : slot_names l ≡ true) (c : Columns) (ec : c ≡ columns_of l) where
  is_slots : from_slot_names (lines s) least most (ended s 10) ≡ from_slots (slot_lines c t) c least most (lines t)
  unfolding slot_lines
  is_slots = rw (h.first, h.last) (rw k (rw ec))

  pub slots_right : (n : ℕ) → laid 4 (slot_lines c t) ≡ Ok n → pattern_answer (from_slot_names (lines s) least most (ended s 10)) ≡ judged (shown_pattern least most (map (read_slot c) (lines t)))
  slots_right n w = ap pattern_answer is_slots ∙ rw (laid_right 4 _ w)

pub slots-count : (c : Columns) (t : List ℕ) (n : ℕ) → slot_lines c t ≡ Ok n → n ≡ length (lines t)
unfolding slot_lines
slots-count c t n w = omega (arith, scan-count (lines t) (slot_values c) (ended t 10) 0 n w)

-- ---- the whole file

pub read_long : (s : List ℕ) → 60000 < length s → pattern_read s ≡ Err FileLength
unfolding pattern_read
read_long s h = rw (lt-ltb 60000 (length s) h)

module _ (s : List ℕ) (small : length s ≤ 60000) where
  read_small : pattern_read s ≡ pattern_answer (from_names (lines s) (ended s 10))
  unfolding pattern_read pattern_contents
  read_small = rw (le-ltb 60000 (length s) small)

  pub names_open : OpenLine s → pattern_read s ≡ Err (Names 1)
  names_open o = read_small ∙ rw o.none

  module _ {l t : List ℕ} (h : ClosedLine s l t) where
    pub names-wrong : span_names l ≡ false → pattern_read s ≡ Err (Names 1)
    names-wrong k = read_small ∙ rw h.first (rw k)

    pub names_right : span_names l ≡ true → (i j : ℕ) → i ≡ column (fields l) least_name → j ≡ column (fields l) most_name
        → pattern_read s ≡ pattern_answer (from_values (lines t) i j (ended t 10))
    names_right k i j ei ej = read_small ∙ rw (h.first, h.last) (rw k (rw (ei, ej)))
