-- Files that are written: one byte for byte, and one that is as long as any. They compute. Assumes nothing.
use Rattle.std.specs.Prelude.{ℕ, ◌≡◌, refl, true, false, List, [], ◌∷◌, length, replicate, Ok}
use Rattle.basics.specs.Digits.{digits_in}
use Rattle.pattern.specs.declared.Pattern.{Pattern}
use Rattle.pattern.specs.Patterns.{member}
use Rattle.pattern.specs.Words.{rises, canonical, sorted, inserted}
use Rattle.pattern.specs.Tests.{limits_verdict, pattern_verdict, slot_verdict, slots_verdict, span_verdict}
use Rattle.format.specs.Names.{high_name, least_name, low_name, most_name, words_name}
use Rattle.format.specs.Patterns.{shown_pattern}
use Rattle.format.specs.Shown.{closed, digits, joined, slot_text}
use Rattle.printing.specs.Printed.{pattern_text, most_printed}

abbrev line : List (List ℕ) → List ℕ
line fs = joined fs 32

-- the pattern of `7` and `!15,12` with a gap of 0 to 1 before it, its words in order
slots-written : pattern_text (shown_pattern 1 20000 (record { low = 0; high = 0; excluding = false; words = 7 ∷ [] } ∷ record { low = 0; high = 1; excluding = true; words = 15 ∷ 12 ∷ [] } ∷ []))
    ≡ closed (line (least_name ∷ most_name ∷ []) ∷ line (digits 1 ∷ digits 20000 ∷ [])
    ∷ line (low_name ∷ high_name ∷ words_name ∷ [])
    ∷ line (digits 0 ∷ digits 0 ∷ digits 7 ∷ [])
    ∷ line (digits 0 ∷ digits 1 ∷ (33 ∷ joined (digits 12 ∷ digits 15 ∷ []) 44) ∷ []) ∷ [])
unfolding pattern_text slot_text closed joined digits digits_in canonical sorted inserted
slots-written = refl

-- sixteen excluding slots of eight words of five digits, with wide gaps and span limits: its file has as many bytes as any
largest_pattern : Pattern
largest_pattern = shown_pattern 10000 20000 (record { low = 0; high = 0; excluding = true; words = long } ∷ replicate 15 (record { low = 10; high = 63; excluding = true; words = long }))
  where
    long : List ℕ
    long = 65528 ∷ 65529 ∷ 65530 ∷ 65531 ∷ 65532 ∷ 65533 ∷ 65534 ∷ 65535 ∷ []

largest-written : (pattern_verdict largest_pattern ≡ Ok tt) × (length (pattern_text largest_pattern) ≡ most_printed)
unfolding largest_pattern pattern_text slot_text closed joined digits digits_in pattern_verdict limits_verdict slots_verdict slot_verdict span_verdict rises canonical sorted inserted member
largest-written = (refl, refl)
