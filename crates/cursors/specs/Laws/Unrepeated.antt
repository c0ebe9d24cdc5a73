-- While all that a client calls is "next" with one pattern and one text, no place is given to it twice at the same slot.
use Rattle.std.specs.Prelude.{ℕ, zero, suc, ◌≤◌, ◌≡◌, refl, List, [], ◌∷◌, ◌++◌, length, take, replicate, Ok, Err}
use Rattle.std.proofs.Common.{arith, ap, subst, ◌∙◌}
use Rattle.std.proofs.Math.Option.{Option as Found, none, some}
use Rattle.pattern.specs.declared.Pattern.{Pattern}
use Rattle.pattern.specs.Accepted.{AcceptedInput}
use Rattle.basics.specs.Collections.{Every, more}
use Rattle.basics.specs.Laws.Collections.{pairwise_map}
use Rattle.matching.specs.Occurrence.{plain, Occurs}
use Rattle.matching.specs.Rows.{level, Before, NotAfter}
use Rattle.matching.specs.Nonoverlap.{Nonoverlapping}
use Rattle.matching.specs.Lists.{leftmost}
use Rattle.matching.proofs.Laws.Direction.{forwards}
use Rattle.matching.proofs.Laws.Greedy.{Run, start, step as further, run-hits, run_chain, chain_pairwise, run_split}
use Rattle.matching.proofs.Laws.Extremes.{earliest_some, leftmost-front}
use Rattle.cursors.specs.declared.Client.{Client}
use Rattle.cursors.specs.declared.Cursors.{Cursors}
use Rattle.cursors.specs.Machine.{fresh, client_of, next_verdict, first_marks, next_row, rewound}
use Rattle.cursors.specs.Calls.{Call, next, rewind, Reply, History}
use Rattle.cursors.specs.Clients.{KnownClient, own_calls, own_replies, rows_given}
use Rattle.cursors.specs.Laws.Admitting.{admitted, client_accepted}
use Rattle.cursors.specs.Laws.Storing.{Four, fresh_client}
use Rattle.cursors.specs.Laws.Alone.{client_by, reply_by, restarted_by, client_after, step_client, client_alone, replies_alone, alone}
use Rattle.cursors.specs.Laws.Giving.{first_sixteen, moved_first}
use Rattle.cursors.specs.Laws.Running.{machine-from}
use Rattle.pattern.specs.Tests.{Verdict}

-- rows from marks to marks, each the earliest occurrence past the one before
abbrev pub Successive : Pattern → List ℕ → List ℕ → List (List ℕ) → List ℕ → Type 0
Successive f t = Run (Occurs f t) (Before f.count) (NotAfter f.count)

-- calls that are all "next" for the client with this pattern and text
abbrev pub OnlyNext : ℕ → Pattern → List ℕ → List Call → Type 0
OnlyNext client f t calls = Every (λ call. call ≡ next client f t) calls

-- ---- one client alone

successive_by : (f : Pattern) (t : List ℕ) (c : Client) (v : Verdict) (o : Found (List ℕ)) (replies : List Reply) (last : List ℕ) → (v ≡ Ok tt → 1 ≤ f.count) → next_row c f t ≡ o
    → Successive f t (first_marks (client_by v o c) f) (rows_given f.count replies) last → Successive f t (first_marks c f) (rows_given f.count (reply_by v o ∷ replies)) last
unfolding rows_given
successive_by f t c (Ok tt) (some row) replies last slots e h =
    let nearest = (earliest_some f (plain f t) (slots refl) (first_marks c f) row).0 e in
    let size = nearest.hit.size in
    let rest = subst (λ (marks : List ℕ). Successive f t marks (rows_given f.count replies) last) (moved_first f row c size) h in
    rw (first_sixteen row size) (further nearest rest)
successive_by f t c (Ok tt) none replies last slots e h = h
successive_by f t c (Err why) o replies last slots e h = h

successive_alone : (client : ℕ) (f : Pattern) (t : List ℕ) (calls : List Call) (c : Client) → OnlyNext client f t calls
    → Successive f t (first_marks c f) (rows_given f.count (replies_alone calls c)) (first_marks (client_alone calls c) f)
unfolding replies_alone client_alone rows_given
successive_alone client f t [] c same = start
successive_alone client f t (call ∷ calls) c (more e same) =
    let left = client_after (next client f t) c in
    let rest = successive_alone client f t calls left same in
    let v = next_verdict f (length t) client c.served in
    let all = successive_by f t c v (next_row c f t) (replies_alone calls left) (first_marks (client_alone calls left) f) (λ q. (admitted q).some) refl rest in
    rw e all

take_level : (m n : ℕ) → m ≤ n → take m (replicate n 0) ≡ level m 0
take_level zero n few = refl
take_level (suc m) zero few = absurd (omega arith)
take_level (suc m) (suc n) few = ap (λ (row : List ℕ). 0 ∷ row) (take_level m n (omega arith))

-- ---- among the four

-- From any state, calls among which all of one client's are "next" with one pattern and text.
module _ {client : ℕ} (k : KnownClient client) {f : Pattern} {t : List ℕ} {calls : List Call} {replies : List Reply} {s last : Cursors}
    (four : Four s) (h : History s calls replies last) (same : OnlyNext client f t (own_calls client calls)) where
  -- the client is served on from its marks, each row the earliest past the one before
  pub successive : Successive f t (first_marks (client_of s client) f) (rows_given f.count (own_replies client calls replies)) (first_marks (client_of last client) f)
  successive =
      let a = alone k calls s four in
      rw ((machine-from h).answers, (machine-from h).state, a.answers, a.end) (successive_alone client f t (own_calls client calls) (client_of s client) same)

  -- so no place is given to it twice at the same slot
  pub unrepeated : Nonoverlapping f t (rows_given f.count (own_replies client calls replies))
  unrepeated =
      let m = f.count in
      record { occur = run-hits successive; apart = pairwise_map (forwards m).past_apart (chain_pairwise (forwards m) (run_chain successive)) }

  -- and from marks of 0, as a fresh state and a rewind leave them, its rows are the first rows of the front list
  pub front_first : AcceptedInput f (length t) → (client_of s client).marks ≡ replicate 16 0
      → (rest : List (List ℕ)) × (leftmost f t ≡ rows_given f.count (own_replies client calls replies) ++ rest)
  front_first ok zeros =
      let m = f.count in
      let from : first_marks (client_of s client) f ≡ level m 0 = ap (λ (marks : List ℕ). take m marks) zeros ∙ take_level m 16 ok.pattern.few in
      let rows = rows_given m (own_replies client calls replies) in
      let run = subst (λ (marks : List ℕ). Successive f t marks rows (first_marks (client_of last client) f)) from successive in
      run_split (forwards m) (λ r o. o.size) run (leftmost-front f (plain f t) ok.pattern.some)

-- where marks are 0
pub fresh_marks : {client : ℕ} → KnownClient client → (client_of fresh client).marks ≡ replicate 16 0
fresh_marks k = ap (λ (c : Client). c.marks) (fresh_client k)

pub rewound_marks : (s : Cursors) {client : ℕ} → KnownClient client → Four s → (client_of (rewound s client).cursors client).marks ≡ replicate 16 0
rewound_marks s {client} k four = ap (λ (c : Client). c.marks) (step_client (rewind client) s k four) ∙ ap (λ (v : Verdict). (restarted_by v (client_of s client)).marks) (client_accepted k)
