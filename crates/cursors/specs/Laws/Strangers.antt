-- A call that names none of the four is refused, with 14 where no earlier test refuses it; a call that names one of them is never refused with 14.
use Rattle.std.specs.Prelude.{ℕ, ◌≡◌, refl, List, length, leb, Some, Ok, Err}
use Rattle.std.proofs.Common.{arith, sym, ap, ◌∙◌}
use Rattle.std.proofs.Math.Option.{Option as Found, none, some}
use Rattle.pattern.specs.declared.Pattern.{Pattern}
use Rattle.pattern.specs.declared.refusal.Refusal.{Refusal}
use Rattle.pattern.specs.declared.refusal.Refusal.TheVariants.{Client as NoClient, Served as TooMany}
use Rattle.pattern.specs.Tests.{Verdict, refuse, and_then, input_verdict}
use Rattle.pattern.specs.Laws.Refusing.{Only, only_none, only_refuse, only_then, only_input}
use Rattle.cursors.specs.declared.Client.{Client}
use Rattle.cursors.specs.declared.Cursors.{Cursors}
use Rattle.cursors.specs.Machine.{client_of, next_verdict, next_row}
use Rattle.cursors.specs.Calls.{Call, next, rewind, turned, step}
use Rattle.cursors.specs.Clients.{KnownClient, caller, refusal_in}
use Rattle.cursors.specs.Laws.Admitting.{client_accepted, client_refused}
use Rattle.cursors.specs.Laws.Alone.{reply_by, reply_to, step-reply}

-- ---- none of the four

-- the tests of "next"
pub stranger_next : (client : ℕ) → (KnownClient client → ⊥) → (f : Pattern) (n served : ℕ) → next_verdict f n client served ≡ and_then (input_verdict f n) (Err NoClient)
unfolding next_verdict
stranger_next client h f n served = rw (client_refused client h) refl

refused_reply : (v : Verdict) (o : Found (List ℕ)) → (why : Refusal) × (refusal_in (reply_by (and_then v (Err NoClient)) o) ≡ Some why)
refused_reply (Ok tt) o = (NoClient, refl)
refused_reply (Err why) o = (why, refl)

stranger_reply : (call : Call) (c : Client) → (KnownClient (caller call) → ⊥) → (why : Refusal) × (refusal_in (reply_to call c) ≡ Some why)
stranger_reply (next client f t) c h = rw (stranger_next client h f (length t) c.served) (refused_reply (input_verdict f (length t)) (next_row c f t))
stranger_reply (rewind client) c h = rw (client_refused client h) (NoClient, refl)

-- its call is refused
pub stranger_refused : (call : Call) (s : Cursors) → (KnownClient (caller call) → ⊥) → (why : Refusal) × (refusal_in (step call s).reply ≡ Some why)
stranger_refused call s h = rw (step-reply call s) (stranger_reply call (client_of s (caller call)) h)

-- ---- one of the four

abbrev Not14 : ℕ → Type 0
Not14 n = n ≡ 14 → ⊥

known_next : (f : Pattern) (n served : ℕ) {client : ℕ} → KnownClient client → Only Not14 (next_verdict f n client served)
unfolding next_verdict
known_next f n served k =
    rw (client_accepted k)
    (only_then Not14 (input_verdict f n) (refuse (leb 500 served) TooMany (Ok tt))
    (only_input Not14 (λ m l e. omega arith) (λ e. omega (arith, e)) (λ e. omega (arith, e)) f n)
    (only_refuse Not14 (leb 500 served) TooMany (Ok tt) (λ e. omega (arith, e)) (only_none Not14)))

refused_by : (v : Verdict) (o : Found (List ℕ)) (why : Refusal) → refusal_in (reply_by v o) ≡ Some why → v ≡ Err why
refused_by (Ok tt) (some row) why e = absurd (cc)
refused_by (Ok tt) none why e = absurd (cc)
refused_by (Err other) o why e = cc

known-reply : (call : Call) (c : Client) → KnownClient (caller call) → refusal_in (reply_to call c) ≡ Some NoClient → ⊥
known-reply (next client f t) c k e =
    let v = next_verdict f (length t) client c.served in
    known_next f (length t) c.served k NoClient (refused_by v (next_row c f t) NoClient e) refl
known-reply (rewind client) c k e = let q = ap (λ (v : Verdict). refusal_in (turned v)) (sym (client_accepted k)) ∙ e in cc

-- its call is not refused with 14
pub refused_by_14 : (call : Call) (s : Cursors) → refusal_in (step call s).reply ≡ Some NoClient → KnownClient (caller call) → ⊥
refused_by_14 call s e k = known-reply call (client_of s (caller call)) k (ap refusal_in (sym (step-reply call s)) ∙ e)
