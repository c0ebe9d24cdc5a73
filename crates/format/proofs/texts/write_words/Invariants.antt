use Rattle.std.proofs.Common.{◌≡◌, ◌<◌, ℕ, Ok, drop, get_or}
use Rattle.format.specs.Bytes.{is_number}
use Rattle.format.proofs.LineSteps.{scanned, values}
use Rattle.format.proofs.texts.write_words.Given as goal

abbrev pub invariant-loop-word : goal.invariant-loop-word
invariant-loop-word l = record {
  right : scanned is_number l.rest l.word-index ≡ Ok l.m;
  others : drop l.word-index (values l.s) ≡ values l.rest;
  written : (k : ℕ) → k < l.word-index → get_or l.word-items k 0 ≡ get_or (values l.s) k 0;
}
