-- `!` alone has no words, and what has some has them past its mark.
use Rattle.std.proofs.Common.{ℕ, List, sym, ◌∙◌, ap}
use Rattle.format.specs.Bytes.{all_numbers, parts}
use Rattle.format.specs.Laws.Words.{bare_parts, listed-parts}
use Rattle.format.proofs.words.all_words.Goals as goal

pub returns-then-bare : goal.returns-then-bare
unfolding all_numbers
returns-then-bare c = rw (bare_parts c.args.s.now (sym c.bare.ensures ∙ c.if-bare.true)) c.if-bare.true

pub returns-else-bare : goal.returns-else-bare
returns-else-bare c =
    c.all_numbers.ensures ∙ ap (λ (l : List ℕ). all_numbers (parts l 44)) c.unmarked.ensures
    ∙ ap all_numbers (sym (listed-parts c.args.s.now (sym c.bare.ensures ∙ c.if-bare.false)))
