-- The machine of one client: each of the four is answered, and left, as by such a machine of its own.
use Rattle.std.specs.Prelude.{ℕ, ◌≡◌, Bool, length, Ok, Err}
use Rattle.std.proofs.Math.Path.{refl, subst}
use Rattle.std.proofs.Common.{sym, ap}
use Rattle.std.proofs.Math.Bool.{true, false}
use Rattle.std.proofs.Math.Option.{Option as Found, none, some}
use mathlib.Core.List.{List, [], ◌∷◌}
use borrow.Author.Tests.{eqb-true, eqb-false}
use Rattle.basics.specs.Collections.{keep, select}
use Rattle.matching.specs.Answers.{searched_by}
use Rattle.cursors.specs.declared.Client.{Client}
use Rattle.cursors.specs.declared.Cursors.{Cursors}
use Rattle.cursors.specs.Machine.{client_of, moved, restarted, client_verdict, next_verdict, next_row, left_by, next_served, rewound_by, rewound}
use Rattle.cursors.specs.Calls.{Call, next, rewind, Reply, served, turned, step, run}
use Rattle.cursors.specs.Clients.{KnownClient, caller, owns, own_calls, own_replies}
use Rattle.cursors.specs.Laws.Storing.{Four, with_same, step_four, other_kept}
use Rattle.pattern.specs.Tests.{Verdict}

-- ---- the machine of one client

-- what "next" leaves of a client where the tests come to the verdict and the search to a row or none
abbrev pub client_by : Verdict → Found (List ℕ) → Client → Client
client_by (Ok tt) (some row) c = moved row c
client_by (Ok tt) none c = c
client_by (Err why) found c = c

-- what it answers
abbrev pub reply_by : Verdict → Found (List ℕ) → Reply
reply_by v found = served (searched_by v found)

-- what "rewind" leaves of it
abbrev pub restarted_by : Verdict → Client → Client
restarted_by (Ok tt) c = restarted c
restarted_by (Err why) c = c

-- what a call of its own leaves of a client
abbrev pub client_after : Call → Client → Client
client_after (next client f t) c = client_by (next_verdict f (length t) client c.served) (next_row c f t) c
client_after (rewind client) c = restarted_by (client_verdict client) c

-- and what it answers
abbrev pub reply_to : Call → Client → Reply
reply_to (next client f t) c = reply_by (next_verdict f (length t) client c.served) (next_row c f t)
reply_to (rewind client) c = turned (client_verdict client)

-- what calls one after the other leave of it
unfoldable pub client_alone : List Call → Client → Client
client_alone [] c = c
client_alone (call ∷ calls) c = client_alone calls (client_after call c)

-- and what they answer
unfoldable pub replies_alone : List Call → Client → List Reply
replies_alone [] c = []
replies_alone (call ∷ calls) c = reply_to call c ∷ replies_alone calls (client_after call c)

-- ---- a call to the four

left_client : (v : Verdict) (o : Found (List ℕ)) (s : Cursors) {client : ℕ} → KnownClient client → Four s → client_of (left_by v o s client) client ≡ client_by v o (client_of s client)
left_client (Ok tt) (some row) s {client} k four = with_same s (moved row (client_of s client)) k four
left_client (Ok tt) none s k four = refl
left_client (Err why) o s k four = refl

rewound_client : (v : Verdict) (s : Cursors) {client : ℕ} → KnownClient client → Four s → client_of (rewound_by v s client).cursors client ≡ restarted_by v (client_of s client)
rewound_client (Ok tt) s {client} k four = with_same s (restarted (client_of s client)) k four
rewound_client (Err why) s k four = refl

rewound-verdict : (v : Verdict) (s : Cursors) (client : ℕ) → (rewound_by v s client).verdict ≡ v
rewound-verdict (Ok tt) s client = refl
rewound-verdict (Err why) s client = refl

-- what it leaves of the client that it names, and what it answers, depend on that client alone
pub step_client : (call : Call) (s : Cursors) → KnownClient (caller call) → Four s → client_of (step call s).state (caller call) ≡ client_after call (client_of s (caller call))
unfolding next_served rewound
step_client (next client f t) s k four = left_client (next_verdict f (length t) client (client_of s client).served) (next_row (client_of s client) f t) s k four
step_client (rewind client) s k four = rewound_client (client_verdict client) s k four

pub step-reply : (call : Call) (s : Cursors) → (step call s).reply ≡ reply_to call (client_of s (caller call))
unfolding next_served rewound
step-reply (next client f t) s = refl
step-reply (rewind client) s = ap turned (rewound-verdict (client_verdict client) s client)

-- ---- calls to the four

-- answers and the client that is left are those of the machine of one client
pub record Alone (before : Client) (calls : List Call) (replies : List Reply) (last : Client) : Type 0 where
  pub answers : replies ≡ replies_alone calls before
  pub end : last ≡ client_alone calls before

module _ {client : ℕ} (k : KnownClient client) where
  alone_more : (call : Call) (s : Cursors) {calls : List Call} {replies : List Reply} {last : Client} → Four s → (b : Bool) → owns client call ≡ b
      → Alone (client_of (step call s).state client) calls replies last → Alone (client_of s client) (keep b call calls) (keep b (step call s).reply replies) last
  unfolding keep replies_alone client_alone
  alone_more call s four true e below =
      let named = eqb-true (caller call) client e in
      let left : client_of (step call s).state client ≡ client_after call (client_of s client) =
      subst (λ (x : ℕ). client_of (step call s).state x ≡ client_after call (client_of s x)) named (step_client call s (subst KnownClient (sym named) k) four) in
      let told : (step call s).reply ≡ reply_to call (client_of s client) = subst (λ (x : ℕ). (step call s).reply ≡ reply_to call (client_of s x)) named (step-reply call s) in
      record { answers = rw (told, below.answers, left); end = rw (below.end, left) }
  alone_more call s {calls} {replies} {last} four false e below =
      subst (λ (c : Client). Alone c calls replies last) (other_kept call s k (eqb-false (caller call) client e)) below

  -- Each of the four is answered, and left, as by a machine of its own.
  pub alone : (calls : List Call) (s : Cursors) → Four s
      → Alone (client_of s client) (own_calls client calls) (own_replies client calls (run calls s).replies) (client_of (run calls s).state client)
  unfolding run own_replies select replies_alone client_alone
  alone [] s four = record { answers = refl; end = refl }
  alone (call ∷ calls) s four = alone_more call s four (owns client call) refl (alone calls (step call s).state (step_four call s four))
