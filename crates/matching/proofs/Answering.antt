-- The searches' answers as equations, from either end. Assumes nothing.
use Prim.Native.Nat.{ℕ, ◌+◌, ◌-◌, ◌≤◌, ◌<◌}
use native.Mathlib.Omega.{arith}
use native.Mathlib.Decide.{dec_lt}
use mathlib.Core.List.{List}
use mathlib.Core.Bool.{true≢false}
use mathlib.Core.Option.{Option as Found, none, some}
use Rattle.std.specs.Prelude.{Option, Some, None}
use mathlib.Core.Path.{◌≡◌, refl, sym, ap, ◌∙◌}
use lib.ListN.{length, take, replicate, length-append, length-replicate, get_or-append}
use lib.Seq.{get_or-take, length-take-le, ext_get_or, get_or-append-add}
use Rattle.pattern.specs.declared.Pattern.{Pattern}
use Rattle.basics.specs.Laws.Arrays.{zeros_at, at_past}
use Rattle.matching.specs.Occurrence.{View, plain, at}
use Rattle.matching.specs.Searches.{earliest, latest}
use Rattle.matching.specs.Answers.{sixteen, searched}
use Rattle.matching.specs.Steps.Settling.{Ready, Reported, Answered, AnsweredBack, Copied, Spare, answer_of}
use Rattle.matching.specs.Steps.Turning.{flip, Flipped}
use Rattle.matching.proofs.Laws.Extremes.{earliest_some, earliest_none, latest_some, latest_none, earliest_same, latest_same}
use Rattle.matching.proofs.Laws.Mirror.{length-flip, Opposite, flip-opposite, Facing, nearest_back, none_back}
use Rattle.matching.proofs.Laws.Ready.{RowAccepted}

-- ---- the marks as a row

pub copied-spare : {marks p : List ℕ} {m : ℕ} → length marks ≡ m → Copied marks p → Spare m p
copied-spare {marks} e C = record { size = C.size; rest = λ j h. C.same j ∙ at_past marks j (omega arith) }

-- ---- a search from the end

-- a row of an array, read from the end
pub same_row : {m n : ℕ} {row near : List ℕ} → length row ≡ 16 → m ≤ 16 → Flipped m n row near → take m near ≡ flip n (take m row)
same_row {m} {n} {row} {near} e few N =
    let r = take m row in
    let lr : length r ≡ m = length-take-le m row (omega arith) in
    let ln : length (take m near) ≡ m = length-take-le m near (omega (arith, N.size)) in
    ext_get_or 0 (take m near) (flip n r) (omega (arith, length-flip n r))
    (λ j h. let i = m - 1 - j in
    let q : i + j + 1 ≡ m = omega arith in
    omega (arith, get_or-take m near j 0 (omega arith), N.turn i j q, (flip-opposite n r).turn i j (omega arith), get_or-take m row i 0 (omega arith)))

module _ {f g : Pattern} {v u : View} (F : Facing f v g u) (ok : Ready f v.places) {marks far : List ℕ} (M : Flipped f.count v.places marks far) where
  opposite : Opposite f.count v.places marks far
  opposite = record { turn = M.turn }

  pub back_found : {row near : List ℕ} → Answered g u far (answer_of (Some row)) → Flipped f.count v.places row near → AnsweredBack f v marks (answer_of (Some near))
  back_found {row} {near} A N =
      let q : take f.count near ≡ flip v.places (take g.count row) =
      same_row (A.size refl) ok.few N ∙ ap (λ (k : ℕ). flip v.places (take k row)) (sym F.count) in
      record {
        some = λ _. rw q (nearest_back F ok.some opposite (A.some refl));
        size = λ _. N.size;
        rest = λ _. N.rest;
        none = λ h. absurd (true≢false h);
      }

  pub back_none : Answered g u far (answer_of None) → AnsweredBack f v marks (answer_of None)
  back_none A = record {
    some = λ h. absurd (true≢false (sym h));
    size = λ h. absurd (true≢false (sym h));
    rest = λ h. absurd (true≢false (sym h));
    none = λ _. none_back F ok.some opposite (A.none refl);
  }

-- ---- the answer as an equation

padding : (m : ℕ) (p : List ℕ) → length p ≡ 16 → m ≤ 16 → ((j : ℕ) → m ≤ j → at p j ≡ 0) → p ≡ sixteen (take m p)
padding m p e l rest =
    let r = take m p in
    let lr : length r ≡ m = length-take-le m p (omega arith) in
    let z : List ℕ = replicate (16 - length r) 0 in
    let lz : length z ≡ 16 - length r = length-replicate {A = ℕ} (16 - length r) 0 in
    ext_get_or 0 p (sixteen r) (omega (arith, length-append r z))
    (λ j h. elim (dec_lt j m) [
      | yes k ↦ let kk : j < length r = omega arith in sym (get_or-take m p j 0 k) ∙ sym (get_or-append r z 0 j kk)
      | no k ↦ let i = j - length r in let q : j ≡ length r + i = omega arith in
          rest j (omega arith) ∙ sym (zeros_at (16 - length r) i) ∙ sym (get_or-append-add r z i 0) ∙ ap (λ (x : ℕ). at (sixteen r) x) (sym q)
    ])

module _ {m : ℕ} {Nearest : List ℕ → Type 0} {Nothing : Type 0} (few : m ≤ 16) {o : Found (List ℕ)}
    (found : (r : List ℕ) → Nearest r → o ≡ some r) (absent : Nothing → o ≡ none) where
  searched_is : (x : Option (List ℕ)) → Reported m Nearest Nothing (answer_of x) → x ≡ searched o
  searched_is (Some p) A = rw (found (take m p) (A.some refl)) (ap (λ (q : List ℕ). Some q) (padding m p (A.size refl) few (A.rest refl)))
  searched_is None A = rw (absent (A.none refl))

-- ---- the two searches

module _ {f : Pattern} {t marks : List ℕ} (ok : RowAccepted f t marks) {row : List ℕ} (C : Copied marks row) (x : Option (List ℕ)) where
  pub first_is : Answered f (plain f t) row (answer_of x) → x ≡ searched (earliest f t marks)
  first_is A =
      let r = ok.ready in
      searched_is r.few (λ q n. (earliest_some f (plain f t) r.some row q).1 n) (λ n. (earliest_none f (plain f t) r.some row).1 n) x A
      ∙ ap searched (earliest_same f (plain f t) r.some row marks (λ j h. C.same j))

  pub last_is : AnsweredBack f (plain f t) row (answer_of x) → x ≡ searched (latest f t marks)
  last_is A =
      let r = ok.ready in
      searched_is r.few (λ q n. (latest_some f (plain f t) r.some row q).1 n) (λ n. (latest_none f (plain f t) r.some row).1 n) x A
      ∙ ap searched (latest_same f (plain f t) r.some row marks (λ j h. C.same j))
