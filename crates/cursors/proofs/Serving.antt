-- What the tests of a call leave to its search, and the state that a row found leaves. Assumes nothing.
use Rattle.std.proofs.Common.{◌≡◌, ℕ, ◌≤◌, ◌<◌, List, length, take, refl, sym, arith, length-take-le, eq-eqb, Some, Ok}
use Rattle.std.proofs.Math.Option.{Option as Found, none, some}
use Rattle.pattern.specs.declared.Pattern.{Pattern}
use Rattle.pattern.specs.Tests.{input_verdict}
use Rattle.pattern.specs.Laws.Accepting.{input-accepted}
use Rattle.matching.specs.Occurrence.{plain}
use Rattle.matching.specs.Searches.{earliest}
use Rattle.matching.specs.Answers.{row_verdict, sixteen, searched, first_after}
use Rattle.matching.proofs.Laws.Extremes.{earliest_some}
use Rattle.cursors.specs.declared.Cursors.{Cursors}
use Rattle.cursors.specs.Machine.{client_of, with_client, moved, first_marks, client_verdict, next_verdict, next_row, next_served}
use Rattle.cursors.specs.Laws.Admitting.{admitted, known_client}
use Rattle.cursors.specs.Laws.Giving.{first_sixteen}

-- ---- a client that passed the test

pub in_range : (client : ℕ) → Ok tt ≡ client_verdict client → (1 ≤ client) × (client ≤ 4)
in_range client e = let k = known_client (sym e) in (k.first, k.last)

-- ---- a call of "next" that passed the tests

module _ (f : Pattern) (n client served : ℕ) (e : Ok tt ≡ next_verdict f n client served) where
  pub next_range : (1 ≤ client) × (client ≤ 4)
  next_range = let k = (admitted (sym e)).known in (k.first, k.last)

  pub next_input : input_verdict f n ≡ Ok tt
  next_input = (admitted (sym e)).input

  pub next_room : (f.count ≤ 16) × (served < 500)
  next_room = let k = admitted (sym e) in (k.few, k.below)

-- ---- the search from the first marks

pub few_slots : (f : Pattern) (n : ℕ) → input_verdict f n ≡ Ok tt → f.count ≤ 16
few_slots f n e = ((input-accepted f n).0 e).pattern.few

pub sought : (f : Pattern) (t marks : List ℕ) → length marks ≡ 16 → input_verdict f (length t) ≡ Ok tt
    → first_after f t (take f.count marks) ≡ Ok (searched (earliest f t (take f.count marks)))
unfolding row_verdict
sought f t marks long e =
    let few = few_slots f (length t) e in
    let size : length (take f.count marks) ≡ f.count = length-take-le f.count marks (omega arith) in
    simp (e, eq-eqb _ _ size)

-- ---- what is left

-- the first of the sixteen places that are given become the client's marks
pub row_stored : (s : Cursors) (client : ℕ) (f : Pattern) (t : List ℕ) {row : List ℕ} → next_verdict f (length t) client (client_of s client).served ≡ Ok tt
    → searched (next_row (client_of s client) f t) ≡ Some row → with_client s client (moved (take f.count row) (client_of s client)) ≡ (next_served s client f t).cursors
unfolding next_served
row_stored s client f t {row} fine e = go (next_row (client_of s client) f t) refl e
  where
    go : (o : Found (List ℕ)) → next_row (client_of s client) f t ≡ o → searched o ≡ Some row
        → with_client s client (moved (take f.count row) (client_of s client)) ≡ (next_served s client f t).cursors
    go none q e = absurd (cc)
    go (some places) q e =
        let size : length places ≡ f.count = ((earliest_some f (plain f t) (admitted fine).some (first_marks (client_of s client) f) places).0 q).hit.size in
        let given : row ≡ sixteen places = cc in
        rw (fine, q, given, first_sixteen places size) refl
