-- The count for two files: where they are read, pattern and text are accepted, so the support answers with rows. Assumes nothing.
use Rattle.std.specs.Prelude.{Result, Ok, Err}
use Rattle.std.proofs.Common.{ℕ, ◌≤◌, ◌≡◌, List, length, take, replicate, length-take, refl, sym, ◌∙◌, ap, arith}
use Rattle.std.proofs.lemmas.List.{length-replicate}
use Rattle.pattern.specs.declared.refusal.Refusal.{Refusal}
use Rattle.pattern.specs.Laws.Accepting.{input-accepted}
use Rattle.pattern.specs.Tests.{input_verdict}
use Rattle.matching.specs.Occurrence.{plain}
use Rattle.matching.specs.Answers.{counted}
use Rattle.matching.specs.Lists.{leftmost}
use Rattle.matching.proofs.Laws.Lengths.{leftmost-length}
use Rattle.format.specs.Input.{input_read, input_written}
use Rattle.format.specs.Laws.Input.{input_read_lem}
use Rattle.format.specs.declared.input.Input.{Input}
use Rattle.format.specs.Texts.{shown_words, text_contents}
use Rattle.counting.specs.Laws.Nine.{err_not}
use Rattle.bindings.specs.Counts.{counted_by, count_in}

ok_is : {a b : ℕ} → ◌≡◌ {A = Result ℕ Refusal} (Ok a) (Ok b) → a ≡ b
ok_is e = cc

module _ (p t out : List ℕ) (room : length out ≡ 20000) where
  -- where a file is refused; the room is the whole limit
  pub count_refused : {why : Refusal} → input_read p t (length out) ≡ Err why → count_in p t ≡ Err why
  unfolding count_in
  count_refused e = rw (← room, e)

  module _ (i : Input) (read : input_read p t (length out) ≡ Ok i) where
    -- the words stand in the list
    pub fits : i.words ≤ length (input_written p t out)
    fits = let both = input_read_lem p t out i read in omega (arith, ap length both.start, both.count, length-take i.words (input_written p t out))

    -- the support of the pattern in the list's first words
    module _ {ws : List ℕ} (w : ws ≡ take i.words (input_written p t out)) where
      accepted : input_verdict i.pattern (length ws) ≡ Ok tt
      accepted = let both = input_read_lem p t out i read in rw (w ∙ both.start, both.count) both.fine

      pub counted_all : counted (input_verdict i.pattern (length ws)) (leftmost i.pattern ws) ≡ count_in p t
      unfolding count_in
      counted_all = rw (accepted, ← room, read, ← (w ∙ (input_read_lem p t out i read).start))

-- the count of a text within the limit is no larger than it
pub few_rows : (p t : List ℕ) (n : ℕ) → count_in p t ≡ Ok n → n ≤ 20000
unfolding count_in
few_rows p t n e = go (input_read p t 20000) refl e
  where
    out : List ℕ
    out = replicate 20000 0

    size : 20000 ≡ length out
    size = sym (length-replicate {A = ℕ} 20000 0)

    go : (r : Result Input Refusal) → input_read p t 20000 ≡ r → counted_by r (shown_words (text_contents t)) ≡ Ok n → n ≤ 20000
    go (Ok i) q h =
        let both = input_read_lem p t out i (ap (input_read p t) (sym size) ∙ q) in
        let ws = shown_words (text_contents t) in
        let fine : input_verdict i.pattern (length ws) ≡ Ok tt = rw both.count both.fine in
        omega (arith, ok_is h, leftmost-length i.pattern (plain i.pattern ws), ((input-accepted i.pattern (length ws)).0 fine).short)
    go (Err why) q h = absurd (err_not h)
