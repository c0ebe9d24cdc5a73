-- Entries past the stated number of slots or words are not looked at: patterns that state the same have the same tally, full list and column.
use Rattle.std.specs.Prelude.{◌≡◌, ℕ, ◌*◌, List, map, length, nat_lt}
use Rattle.pattern.specs.declared.Pattern.{Pattern}
use Rattle.pattern.specs.Stated.{SameStated}
use Rattle.matching.specs.Occurrences.{places, starting_at}
use Rattle.matching.specs.Answers.{filled}
use Rattle.matching.proofs.Laws.Stated.{answers_same}
use Rattle.counting.specs.Starts.{column}
use Rattle.counting.specs.Halves.{halves}
use Rattle.counting.specs.Answers.{too_many, tallied_after, tallied, listed_after, all_listed, all_written, started_after, started, column_by, starts_written}

module _ {f g : Pattern} (same : SameStated f g) (t : List ℕ) where
  pub tallied_same : tallied f t ≡ tallied g t
  tallied_same = answers_same same t (λ v m H F B. tallied_after v (length H))

  pub all_listed_same : (n : ℕ) → all_listed f t n ≡ all_listed g t n
  all_listed_same n = answers_same same t (λ v m H F B. listed_after v (length H) m n)

  pub all_written_same : (l : List ℕ) → all_written f t l ≡ all_written g t l
  all_written_same l = answers_same same t (λ v m H F B. filled v m H l)

  pub started_same : (room : ℕ) → started f t room ≡ started g t room
  started_same room = answers_same same t (λ v m H F B. started_after v (length t) (nat_lt room (length t * 2)) (too_many (length H)))

  pub starts-written_same : (l : List ℕ) → starts_written f t l ≡ starts_written g t l
  unfolding column
  starts-written_same l =
      answers_same same t
      (λ v m H F B. column_by (started_after v (length t) (nat_lt (length l) (length t * 2)) (too_many (length H))) (halves (map (λ p. length (starting_at p H)) (places 1 (length t)))) l)
