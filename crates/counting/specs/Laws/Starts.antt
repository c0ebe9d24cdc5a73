-- The column has a number for each word of the text, and their sum is the tally. With a list that is long enough, `starts` is refused exactly
-- where the tally is, and the numbers that it writes in halves are the column.
use Rattle.std.specs.Prelude.{◌≡◌, ℕ, ◌+◌, ◌*◌, ◌<◌, ◌≤◌, Bool, true, false, List, length, take, drop, nat_lt, slice_index, refl, Result, Ok, Err}
use native.Mathlib.Omega.{arith}
use Rattle.std.proofs.Math.Path.{ap, sym}
use Rattle.std.proofs.Common.{◌∙◌, take_at, drop_at, le-ltb}
use Rattle.basics.specs.Choice.{pick}
use Rattle.basics.specs.Sums.{sum}
use Rattle.pattern.specs.declared.Pattern.{Pattern}
use Rattle.pattern.specs.declared.refusal.Refusal.{Refusal}
use Rattle.pattern.specs.declared.refusal.Refusal.TheVariants.{Tally}
use Rattle.pattern.specs.Tests.{Verdict, input_verdict}
use Rattle.pattern.specs.Laws.Accepting.{input-accepted}
use Rattle.matching.specs.Occurrence.{plain}
use Rattle.matching.specs.Occurrences.{occurrences, starting_in}
use Rattle.matching.proofs.Laws.Cover.{tally-places}
use Rattle.matching.proofs.Laws.Enumeration.{each_length, each_at, places-sum}
use Rattle.counting.specs.Starts.{starts_at, column}
use Rattle.counting.specs.Halves.{halves, wholes}
use Rattle.counting.specs.Answers.{too_many, tallied_after, tallied, started_after, started, started_like, column_by, starts_written}
use Rattle.counting.specs.Laws.Halves.{halves-length, wholes-halves}
use Rattle.counting.specs.Laws.Nine.{tallied_number, err_not}

-- ---- the column

module _ (f : Pattern) (t : List ℕ) where
  pub column-length : length (column f t) ≡ length t
  unfolding column
  column-length = each_length (starts_at f t) 1 (length t)

  pub halves-size : length (halves (column f t)) ≡ length t * 2
  halves-size = halves-length (column f t) ∙ ap (λ (n : ℕ). n * 2) column-length

  pub column_at : (i : ℕ) → i < length t → slice_index (column f t) i ≡ starts_at f t (i + 1)
  unfolding column
  column_at i h = let e : 1 + i ≡ i + 1 = omega arith in each_at (starts_at f t) 1 (length t) i h ∙ ap (starts_at f t) e

  -- its sum is the tally
  pub column-sum : input_verdict f (length t) ≡ Ok tt → sum (column f t) ≡ length (occurrences f t)
  unfolding column starting_in
  column-sum e =
      let a = ((input-accepted f (length t)).0 e).pattern in
      places-sum (starts_at f t) 1 (length t) ∙ sym (tally-places f (plain f t) a.some a.least)

-- ---- the call

-- where it answers, nothing is refused
answered : (v : Verdict) (words : ℕ) (short large : Bool) {n : ℕ} → started_after v words short large ≡ Ok n → v ≡ Ok tt
answered (Ok tt) words short large e = refl
answered (Err why) words short large e = absurd (err_not e)

rest_by : (a : Result ℕ Refusal) (c l : List ℕ) (n : ℕ) → length c ≡ n → drop n (column_by a c l) ≡ drop n l
rest_by (Ok k) c l n e = drop_at c (drop (length c) l) n e ∙ ap (λ (k : ℕ). drop k l) e
rest_by (Err why) c l n e = refl

module _ (f : Pattern) (t l : List ℕ) where
  -- whatever it answers, the rest of the list is as it was
  pub starts_rest : drop (length t * 2) (starts_written f t l) ≡ drop (length t * 2) l
  starts_rest = rest_by (started f t (length l)) (halves (column f t)) l (length t * 2) (halves-size f t)

  module _ {n : ℕ} (e : started f t (length l) ≡ Ok n) where
    -- where it answers, it wrote the halves of the column
    pub starts-halves : take (length t * 2) (starts_written f t l) ≡ halves (column f t)
    starts-halves = rw e (take_at (halves (column f t)) (drop (length (halves (column f t))) l) (length t * 2) (halves-size f t))

    -- which make up the column
    pub starts-column : wholes (take (length t * 2) (starts_written f t l)) ≡ column f t
    starts-column = ap wholes starts-halves ∙ wholes-halves (column f t)

    -- whose sum the tally answers
    pub starts-sum : tallied f t ≡ Ok (sum (wholes (take (length t * 2) (starts_written f t l))))
    starts-sum =
        let a = answered (input_verdict f (length t)) (length t) (nat_lt (length l) (length t * 2)) (too_many (length (occurrences f t))) e in
        tallied_number f t a ∙ ap (λ (n : ℕ). Ok n) (sym (ap sum starts-column ∙ column-sum f t a))

like_total : (large : Bool) (words n : ℕ) → pick large (Err Tally) (Ok words) ≡ started_like words (pick large (Err Tally) (Ok n))
like_total true words n = refl
like_total false words n = refl

like_tally : (v : Verdict) (words total : ℕ) → started_after v words false (too_many total) ≡ started_like words (tallied_after v total)
like_tally (Ok tt) words total = like_total (too_many total) words total
like_tally (Err why) words total = refl

-- with a list that is long enough it answers where the tally does, and else has the same refusal
pub starts_like_tally : (f : Pattern) (t : List ℕ) (room : ℕ) → length t * 2 ≤ room → started f t room ≡ started_like (length t) (tallied f t)
starts_like_tally f t room h = rw (le-ltb room (length t * 2) h) (like_tally (input_verdict f (length t)) (length t) (length (occurrences f t)))
