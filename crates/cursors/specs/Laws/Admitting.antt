-- What the tests leave.
use Rattle.std.specs.Prelude.{ℕ, zero, suc, ◌≤◌, ◌<◌, ◌≡◌, refl, leb, ltb, eqb, Ok, Err}
use Rattle.std.proofs.Common.{arith, leb-false, ltb-false, ne_eqb, lt-ltb, le-ltb}
use Rattle.std.proofs.Math.Decide.{dec_lt}
use Rattle.std.proofs.lemmas.Bool.{eqb-false}
use Rattle.pattern.specs.declared.Pattern.{Pattern}
use Rattle.pattern.specs.declared.refusal.Refusal.TheVariants.{Served as TooMany, Client as NoClient}
use Rattle.pattern.specs.Tests.{Verdict, refuse, and_then, input_verdict}
use Rattle.pattern.specs.Laws.Accepting.{input-accepted, then_accepted, refuse-accepted}
use Rattle.cursors.specs.Machine.{client_verdict, next_verdict}
use Rattle.cursors.specs.Clients.{KnownClient}

pub known_client : {client : ℕ} → client_verdict client ≡ Ok tt → KnownClient client
unfolding client_verdict
known_client {client} e =
    let a = refuse-accepted (eqb client 0) NoClient (refuse (ltb 4 client) NoClient (Ok tt)) e in
    let b = refuse-accepted (ltb 4 client) NoClient (Ok tt) a.1 in
    let h = eqb-false client 0 a.0 in
    record { first = omega arith; last = ltb-false 4 client b.0 }

-- 14 accepts the four
pub client_accepted : {client : ℕ} → KnownClient client → client_verdict client ≡ Ok tt
unfolding client_verdict
client_accepted {client} k = simp (ne_eqb client 0 (λ e. omega (arith, k.first)), le-ltb 4 client k.last)

-- and refuses all others
pub client_refused : (client : ℕ) → (KnownClient client → ⊥) → client_verdict client ≡ Err NoClient
unfolding client_verdict
client_refused zero h = refl
client_refused (suc n) h =
    elim (dec_lt 4 (suc n)) [
      | yes l ↦ simp (ne_eqb (suc n) 0 (λ e. omega arith), lt-ltb 4 (suc n) l)
      | no l ↦ absurd (h (record { first = omega arith; last = omega arith }))
    ]

-- the tests of "next" are passed
pub record Admitted (f : Pattern) (n client served : ℕ) : Type 0 where
  pub input : input_verdict f n ≡ Ok tt
  pub some : 1 ≤ f.count
  pub few : f.count ≤ 16
  pub known : KnownClient client
  pub below : served < 500

pub admitted : {f : Pattern} {n client served : ℕ} → next_verdict f n client served ≡ Ok tt → Admitted f n client served
unfolding next_verdict
admitted {f} {n} {client} {served} e =
    let number : Verdict = refuse (leb 500 served) TooMany (Ok tt) in
    let a = then_accepted (input_verdict f n) (and_then (client_verdict client) number) e in
    let b = then_accepted (client_verdict client) number a.1 in
    let d = refuse-accepted (leb 500 served) TooMany (Ok tt) b.1 in
    let p = ((input-accepted f n).0 a.0).pattern in
    record { input = a.0; some = p.some; few = p.few; known = known_client b.0; below = leb-false 500 served d.0 }
