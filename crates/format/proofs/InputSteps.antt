-- What each test of the reader of both files tells. Assumes nothing.
use Rattle.std.specs.Prelude.{Err, Ok, Result}
use Prim.Native.Nat.{ℕ, ◌≤◌, ◌<◌}
use mathlib.Core.List.{List}
use mathlib.Core.Path.{◌≡◌}
use lib.ListN.{length}
use borrow.Author.Tests.{le-ltb, lt-ltb}
use Rattle.pattern.specs.declared.Pattern.{Pattern}
use Rattle.pattern.specs.declared.refusal.Refusal.{Refusal}
use Rattle.pattern.specs.declared.refusal.Refusal.TheVariants.{FileLength}
use Rattle.format.specs.Texts.{text_read, text_written}
use Rattle.format.specs.Patterns.{pattern_read}
use Rattle.format.specs.Input.{input_read, input_written}
use Rattle.format.specs.declared.input.Input.{Input}

-- the contract of the reader, of its answer and of the caller's list
pub record Done (p t out : List ℕ) (r : Result Input Refusal) (last : List ℕ) : Type 0 where
  pub answer : r ≡ input_read p t (length out)
  pub content : last ≡ input_written p t out

module _ (p t out : List ℕ) where
  pub pattern_long : 60000 < length p → Done p t out (Err FileLength) out
  unfolding input_read input_written
  pattern_long h = record { answer = rw (lt-ltb 60000 (length p) h); content = rw (lt-ltb 60000 (length p) h) }

  pub text_long : length p ≤ 60000 → 60000 < length t → Done p t out (Err FileLength) out
  unfolding input_read input_written
  text_long h k = record { answer = rw (le-ltb 60000 (length p) h, lt-ltb 60000 (length t) k); content = rw (le-ltb 60000 (length p) h, lt-ltb 60000 (length t) k) }

  module _ (h : length p ≤ 60000) (k : length t ≤ 60000) where
    pub pattern_refused : (why : Refusal) → pattern_read p ≡ Err why → Done p t out (Err why) out
    unfolding input_read input_written
    pattern_refused why e = record { answer = rw (le-ltb 60000 (length p) h, le-ltb 60000 (length t) k, e); content = rw (le-ltb 60000 (length p) h, le-ltb 60000 (length t) k, e) }

    module _ (f : Pattern) (read : pattern_read p ≡ Ok f) (last : List ℕ) (el : last ≡ text_written t out) where
      written : last ≡ input_written p t out
      unfolding input_written
      written = rw (le-ltb 60000 (length p) h, le-ltb 60000 (length t) k, read) el

      pub text_refused : (why : Refusal) → text_read t (length out) ≡ Err why → Done p t out (Err why) last
      unfolding input_read
      text_refused why e = record { answer = rw (le-ltb 60000 (length p) h, le-ltb 60000 (length t) k, read) (rw e); content = written }

      pub both_read : (n : ℕ) → text_read t (length out) ≡ Ok n → Done p t out (Ok (record { words = n; pattern = f })) last
      unfolding input_read
      both_read n e = record { answer = rw (le-ltb 60000 (length p) h, le-ltb 60000 (length t) k, read) (rw e); content = written }
