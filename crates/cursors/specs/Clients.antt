-- What one client calls and is answered, among the calls of all.
use Rattle.std.specs.Prelude.{ℕ, ◌≤◌, Bool, List, [], ◌∷◌, take, eqb, Option, Some, None, Ok, Err}
use Rattle.basics.specs.Collections.{keep, select}
use Rattle.pattern.specs.declared.refusal.Refusal.{Refusal}
use Rattle.cursors.specs.Calls.{Call, next, rewind, Reply, served, turned}

-- one of the four; a call that names none of them is refused and belongs to no client
pub record KnownClient (client : ℕ) : Type 0 where
  pub first : 1 ≤ client
  pub last : client ≤ 4

-- the client that a call names
abbrev pub caller : Call → ℕ
caller (next client f t) = client
caller (rewind client) = client

-- the call is the client's own
abbrev pub owns : ℕ → Call → Bool
owns client call = eqb (caller call) client

-- the client's own calls, in their order
abbrev pub own_calls : ℕ → List Call → List Call
own_calls client calls = select (owns client) calls

-- what these were answered, in the same order
unfoldable pub own_replies : ℕ → List Call → List Reply → List Reply
own_replies client [] replies = []
own_replies client (call ∷ calls) [] = []
own_replies client (call ∷ calls) (reply ∷ replies) = keep (owns client call) reply (own_replies client calls replies)

-- the rows of m places that replies give
unfoldable pub rows_given : ℕ → List Reply → List (List ℕ)
rows_given m [] = []
rows_given m (served (Ok (Some places)) ∷ replies) = take m places ∷ rows_given m replies
rows_given m (served (Ok None) ∷ replies) = rows_given m replies
rows_given m (served (Err why) ∷ replies) = rows_given m replies
rows_given m (turned verdict ∷ replies) = rows_given m replies

-- why a reply refuses, if it does
abbrev pub refusal_in : Reply → Option Refusal
refusal_in (served (Ok found)) = None
refusal_in (served (Err why)) = Some why
refusal_in (turned (Ok tt)) = None
refusal_in (turned (Err why)) = Some why
