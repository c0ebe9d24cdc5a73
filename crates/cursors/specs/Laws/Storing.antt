-- The four clients of a state: a call changes at most the one that it names.
use Rattle.std.specs.Prelude.{ℕ, ◌-◌, ◌≡◌, refl, List, [], ◌∷◌, length, Ok, Err}
use Rattle.std.proofs.Common.{arith, ◌∙◌, length-set, get_or-set_same, get_or-set_other}
use Rattle.std.proofs.Math.Option.{Option as Found, none, some}
use Rattle.std.proofs.lemmas.List.{get_or-replicate}
use Rattle.cursors.specs.declared.Client.{Client}
use Rattle.cursors.specs.declared.Cursors.{Cursors}
use Rattle.cursors.specs.Machine.{unserved, fresh, nobody, client_of, with_client, moved, restarted, client_verdict, next_verdict, next_row, left_by, next_served, rewound_by, rewound}
use Rattle.cursors.specs.Calls.{Call, next, rewind, step, run}
use Rattle.cursors.specs.Clients.{KnownClient, caller}
use Rattle.cursors.specs.Laws.Admitting.{known_client, admitted}
use Rattle.pattern.specs.Tests.{Verdict}

-- as many as the type says
abbrev pub Four : Cursors → Type 0
Four s = length s.clients ≡ 4

-- the start
pub fresh_client : {client : ℕ} → KnownClient client → client_of fresh client ≡ unserved
fresh_client {client} k = get_or-replicate 4 (client - 1) unserved nobody (omega (arith, k.first, k.last))

-- a client that was stored
pub with_same : (s : Cursors) {client : ℕ} (after : Client) → KnownClient client → Four s → client_of (with_client s client after) client ≡ after
with_same s {client} after k four = get_or-set_same s.clients (client - 1) after nobody (omega (arith, k.first, k.last))

-- ---- what a call changes

-- nothing, or it names a client and stores it
data Changed (s : Cursors) (named : ℕ) : Cursors → Type 0 where
  kept : Changed s named s
  stored : KnownClient named → (after : Client) → Changed s named (with_client s named after)

left_changes : (v : Verdict) (o : Found (List ℕ)) (s : Cursors) (named : ℕ) → (v ≡ Ok tt → KnownClient named) → Changed s named (left_by v o s named)
left_changes (Ok tt) (some row) s named n = stored (n refl) (moved row (client_of s named))
left_changes (Ok tt) none s named n = kept
left_changes (Err why) o s named n = kept

rewound_changes : (v : Verdict) (s : Cursors) (named : ℕ) → (v ≡ Ok tt → KnownClient named) → Changed s named (rewound_by v s named).cursors
rewound_changes (Ok tt) s named n = stored (n refl) (restarted (client_of s named))
rewound_changes (Err why) s named n = kept

step_changes : (call : Call) (s : Cursors) → Changed s (caller call) (step call s).state
unfolding next_served rewound
step_changes (next named f t) s = left_changes (next_verdict f (length t) named (client_of s named).served) (next_row (client_of s named) f t) s named (λ e. (admitted e).known)
step_changes (rewind named) s = rewound_changes (client_verdict named) s named (λ e. known_client e)

changed_four : {s : Cursors} {named : ℕ} {u : Cursors} → Changed s named u → Four s → Four u
changed_four kept four = four
changed_four {s} {named = named} (stored n after) four = length-set s.clients (named - 1) after ∙ four

changed_other : {s : Cursors} {named client : ℕ} {u : Cursors} → Changed s named u → KnownClient client → (named ≡ client → ⊥) → client_of u client ≡ client_of s client
changed_other kept k h = refl
changed_other {s} {named = named} {client = client} (stored n after) k h =
    get_or-set_other s.clients (named - 1) (client - 1) after nobody (λ e. h (omega (arith, n.first, k.first)))

changed_stranger : {s : Cursors} {named : ℕ} {u : Cursors} → Changed s named u → (KnownClient named → ⊥) → u ≡ s
changed_stranger kept h = refl
changed_stranger (stored n after) h = absurd (h n)

pub step_four : (call : Call) (s : Cursors) → Four s → Four (step call s).state
step_four call s four = changed_four (step_changes call s) four

pub run_four : (calls : List Call) (s : Cursors) → Four s → Four (run calls s).state
unfolding run
run_four [] s four = four
run_four (call ∷ calls) s four = run_four calls (step call s).state (step_four call s four)

-- a client's marks and number stay where another is named
pub other_kept : (call : Call) (s : Cursors) {client : ℕ} → KnownClient client → (caller call ≡ client → ⊥) → client_of (step call s).state client ≡ client_of s client
other_kept call s k h = changed_other (step_changes call s) k h

-- and the whole state where none of the four is
pub stranger_kept : (call : Call) (s : Cursors) → (KnownClient (caller call) → ⊥) → (step call s).state ≡ s
stranger_kept call s h = changed_stranger (step_changes call s) h
