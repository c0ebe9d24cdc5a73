-- What is known once both files were read: pattern and text are accepted, and the list begins with the words shown. Assumes nothing.
use Rattle.std.specs.Prelude.{ℕ, ◌≤◌, Bool, List, ◌≡◌, length, take, Ok, Err, Result}
use Rattle.std.proofs.Math.Bool.{true, false}
use Rattle.std.proofs.Math.Path.{refl}
use Rattle.std.proofs.Common.{ap, take_at, ◌∙◌}
use Rattle.std.proofs.Math.Dec.{ltb}
use Rattle.pattern.specs.Laws.Accepting.{input-accepted}
use Rattle.basics.specs.Choice.{pick}
use Rattle.pattern.specs.Tests.{input_verdict}
use Rattle.pattern.specs.declared.Pattern.{Pattern}
use Rattle.pattern.specs.declared.refusal.Refusal.{Refusal}
use Rattle.pattern.specs.declared.refusal.Refusal.TheVariants.{FileLength}
use Rattle.format.specs.declared.input.Input.{Input}
use Rattle.format.specs.Input.{input_read, input_written, with_pattern}
use Rattle.format.specs.Patterns.{pattern_read}
use Rattle.format.specs.Texts.{shown_words, text_contents, text_read, text_written}
use Rattle.format.specs.Laws.Reading.{pattern_read_lem, text_read_lem, text-written}
use Rattle.format.specs.Laws.TextShown.{text-shown}

no_input : {why : Refusal} {i : Input} → ◌≡◌ {A = Result Input Refusal} (Err why) (Ok i) → ⊥
no_input e = cc

same_input : {i j : Input} → ◌≡◌ {A = Result Input Refusal} (Ok i) (Ok j) → i ≡ j
same_input e = cc

-- a pattern and words were read, these into a list that held `out`
pub record ReadBoth (p t out : List ℕ) (i : Input) : Type 0 where
  pub fine : input_verdict i.pattern i.words ≡ Ok tt
  pub fits : i.words ≤ length out
  pub count : length (shown_words (text_contents t)) ≡ i.words
  pub start : take i.words (input_written p t out) ≡ shown_words (text_contents t)

module _ (p t out : List ℕ) where
  both_read : (f : Pattern) (n : ℕ) → pattern_read p ≡ Ok f → text_read t (length out) ≡ Ok n
      → (input_verdict f n ≡ Ok tt) × (n ≤ length out) × (length (shown_words (text_contents t)) ≡ n) × (take n (text_written t out) ≡ shown_words (text_contents t))
  both_read f n v e =
      let r = (text_read_lem t (length out) n).0 e in
      let s = (pattern_read_lem p f).0 v in
      let w : shown_words (text_contents t) ≡ r.contents = ap shown_words ((text-shown t r.contents).1 r.shows) in
      ((input-accepted f n).1 (record { pattern = s.limits; short = r.few }), r.fits, rw w r.count, rw (w, text-written t out n r) (take_at r.contents _ n r.count))

  -- past both tests of 12: how the pattern was read, then how the text was
  after-pattern : (v : Result Pattern Refusal) → pattern_read p ≡ v → (a : Result ℕ Refusal) → text_read t (length out) ≡ a → (i : Input) → with_pattern v a ≡ Ok i
      → (pattern_read p ≡ Ok i.pattern) × (text_read t (length out) ≡ Ok i.words)
  after-pattern (Err why) ev a ea i e = absurd (no_input e)
  after-pattern (Ok f) ev (Err why) ea i e = absurd (no_input e)
  after-pattern (Ok f) ev (Ok m) ea i e =
      let s : ◌≡◌ {A = Input} (record { words = m; pattern = f }) i = same_input e in
      (ev ∙ ap (λ (j : Input). Ok j.pattern) s, ea ∙ ap (λ (j : Input). Ok j.words) s)

  -- where they were read, all this holds
  pub input_read_lem : (i : Input) → input_read p t (length out) ≡ Ok i → ReadBoth p t out i
  unfolding input_read input_written
  input_read_lem i e = go (ltb 60000 (length p)) refl (ltb 60000 (length t)) refl e
    where
      go : (x : Bool) → ltb 60000 (length p) ≡ x → (y : Bool) → ltb 60000 (length t) ≡ y
          → pick x (Err FileLength) (pick y (Err FileLength) (with_pattern (pattern_read p) (text_read t (length out)))) ≡ Ok i
          → ReadBoth p t out i
      go true a y b k = absurd (no_input k)
      go false a true b k = absurd (no_input k)
      go false a false b k =
          let h = after-pattern (pattern_read p) refl (text_read t (length out)) refl i k in
          let r = both_read i.pattern i.words h.0 h.1 in
          record { fine = r.0; fits = r.1; count = r.2; start = rw (a, b, h.0) r.3 }
