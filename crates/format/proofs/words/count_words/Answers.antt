-- `!` alone has no words, and what has some has them past its mark.
use Rattle.std.proofs.Common.{ℕ, List, length, sym, ◌∙◌, ap}
use Rattle.format.specs.Bytes.{parts}
use Rattle.format.specs.Laws.Words.{bare_parts, listed-parts}
use Rattle.format.proofs.words.count_words.Goals as goal

pub returns-then-bare : goal.returns-then-bare
returns-then-bare c = rw (bare_parts c.args.s.now (sym c.bare.ensures ∙ c.if-bare.true))

pub returns-else-bare : goal.returns-else-bare
returns-else-bare c =
    c.count.ensures ∙ ap (λ (l : List ℕ). length (parts l 44)) c.unmarked.ensures
    ∙ ap (λ (l : List (List ℕ)). length l) (sym (listed-parts c.args.s.now (sym c.bare.ensures ∙ c.if-bare.false)))
