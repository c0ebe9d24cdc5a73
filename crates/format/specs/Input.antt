-- Both files in one call: 12 on both, then the whole pattern file (to 5), then the text file (10, 11, 6, 13).
use Rattle.std.specs.Prelude.{ℕ, List, length, ltb, Result, Ok, Err}
use Rattle.pattern.specs.declared.Pattern.{Pattern}
use Rattle.pattern.specs.declared.refusal.Refusal.{Refusal}
use Rattle.pattern.specs.declared.refusal.Refusal.TheVariants.{FileLength}
use Rattle.basics.specs.Choice.{pick}
use Rattle.format.specs.Texts.{text_read, text_written}
use Rattle.format.specs.Patterns.{pattern_read}
use Rattle.format.specs.declared.input.Input.{Input}

-- what the text's answer gives beside an accepted pattern
abbrev pub with_text : Result ℕ Refusal → Pattern → Result Input Refusal
with_text (Ok n) f = Ok (record { words = n; pattern = f })
with_text (Err why) f = Err why

-- what both answers give, the pattern's first
abbrev pub with_pattern : Result Pattern Refusal → Result ℕ Refusal → Result Input Refusal
with_pattern (Ok f) t = with_text t f
with_pattern (Err why) t = Err why

-- the answer, with room for so many words
unfoldable pub input_read : List ℕ → List ℕ → ℕ → Result Input Refusal
input_read p t room =
    pick (ltb 60000 (length p)) (Err FileLength)
    (pick (ltb 60000 (length t)) (Err FileLength)
    (with_pattern (pattern_read p) (text_read t room)))

-- what a text's reading leaves of the caller's list by the pattern's answer
abbrev pub after_pattern : Result Pattern Refusal → List ℕ → List ℕ → List ℕ
after_pattern (Ok f) written out = written
after_pattern (Err why) written out = out

-- the caller's list at the end
unfoldable pub input_written : List ℕ → List ℕ → List ℕ → List ℕ
input_written p t out =
    pick (ltb 60000 (length p)) out
    (pick (ltb 60000 (length t)) out
    (after_pattern (pattern_read p) (text_written t out) out))
