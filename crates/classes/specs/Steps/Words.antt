-- What src/words.rt writes.
use Rattle.std.specs.Prelude.{ℕ, ◌≡◌, List}
use Rattle.basics.specs.Written.{over}
use Rattle.classes.specs.Trees.{Tree}
use Rattle.classes.specs.Recoding.{recoded_words}
use Rattle.classes.specs.Steps.Sets.{numbers, MetBy}
use Rattle.classes.specs.declared.sets.ClassSet.{ClassSet}

-- over the start of the list, the text recoded by any expression that just the set's class bytes meet
pub record Puts (set : ClassSet) (code : ℕ) (text classes list after : List ℕ) : Type 0 where
  pub content : {t : Tree} → MetBy t (numbers set) → after ≡ over list (recoded_words t code text classes)
