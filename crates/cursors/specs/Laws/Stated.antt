-- Entries past the stated number of slots or words are not looked at: "next" is the same for patterns that state the same.
use Rattle.std.specs.Prelude.{ℕ, ◌≡◌, List, length}
use Rattle.pattern.specs.declared.Pattern.{Pattern}
use Rattle.pattern.specs.Stated.{SameStated}
use Rattle.pattern.specs.Laws.Stated.{input_same}
use Rattle.pattern.specs.Laws.Agree.{same_agree}
use Rattle.matching.proofs.Laws.Stated.{agree_occurrences}
use Rattle.cursors.specs.declared.Cursors.{Cursors}
use Rattle.cursors.specs.Machine.{next_verdict, next_served}

pub next_same : {f g : Pattern} → SameStated f g → (s : Cursors) (client : ℕ) (t : List ℕ) → next_served s client f t ≡ next_served s client g t
unfolding next_served next_verdict
next_same same s client t = rw (input_same same (length t), agree_occurrences (same_agree same) t, same.count)
