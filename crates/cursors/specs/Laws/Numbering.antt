-- A client's number counts the occurrences given to it, and never passes 500.
use Rattle.std.specs.Prelude.{ℕ, ◌+◌, ◌≤◌, ◌<◌, ◌≡◌, refl, List, [], ◌∷◌, length, Ok, Err}
use Rattle.std.proofs.Common.{arith, ap, ◌∙◌}
use Rattle.std.proofs.Math.Option.{Option as Found, none, some}
use Rattle.std.proofs.lemmas.Bool.{lt-leb}
use Rattle.pattern.specs.declared.Pattern.{Pattern}
use Rattle.pattern.specs.Tests.{Verdict, and_then, input_verdict}
use Rattle.cursors.specs.declared.Client.{Client}
use Rattle.cursors.specs.declared.Cursors.{Cursors}
use Rattle.cursors.specs.Machine.{fresh, client_of, client_verdict, next_verdict, next_row}
use Rattle.cursors.specs.Calls.{Call, next, rewind, Reply, run}
use Rattle.cursors.specs.Clients.{KnownClient, own_calls, own_replies, rows_given}
use Rattle.cursors.specs.Laws.Admitting.{admitted}
use Rattle.cursors.specs.Laws.Storing.{Four, fresh_client}
use Rattle.cursors.specs.Laws.Alone.{client_by, reply_by, restarted_by, client_after, reply_to, client_alone, replies_alone, alone}

-- ---- one client alone

next_number : (m : ℕ) (v : Verdict) (o : Found (List ℕ)) (c : Client) (replies : List Reply)
    → (client_by v o c).served + length (rows_given m replies) ≡ c.served + length (rows_given m (reply_by v o ∷ replies))
unfolding rows_given
next_number m (Ok tt) (some row) c replies = omega arith
next_number m (Ok tt) none c replies = refl
next_number m (Err why) o c replies = refl

rewind_number : (v : Verdict) (c : Client) → (restarted_by v c).served ≡ c.served
rewind_number (Ok tt) c = refl
rewind_number (Err why) c = refl

after_number : (m : ℕ) (call : Call) (c : Client) (replies : List Reply)
    → (client_after call c).served + length (rows_given m replies) ≡ c.served + length (rows_given m (reply_to call c ∷ replies))
unfolding rows_given
after_number m (next client f t) c replies = next_number m (next_verdict f (length t) client c.served) (next_row c f t) c replies
after_number m (rewind client) c replies = omega (arith, rewind_number (client_verdict client) c)

alone_number : (m : ℕ) (calls : List Call) (c : Client) → (client_alone calls c).served ≡ c.served + length (rows_given m (replies_alone calls c))
unfolding client_alone replies_alone rows_given
alone_number m [] c = omega arith
alone_number m (call ∷ calls) c = alone_number m calls (client_after call c) ∙ after_number m call c (replies_alone calls (client_after call c))

next_limit : (v : Verdict) (o : Found (List ℕ)) (c : Client) → (v ≡ Ok tt → c.served < 500) → c.served ≤ 500 → (client_by v o c).served ≤ 500
next_limit (Ok tt) (some row) c h l = let q = h refl in omega arith
next_limit (Ok tt) none c h l = l
next_limit (Err why) o c h l = l

after-limit : (call : Call) (c : Client) → c.served ≤ 500 → (client_after call c).served ≤ 500
after-limit (next client f t) c l = next_limit (next_verdict f (length t) client c.served) (next_row c f t) c (λ e. (admitted e).below) l
after-limit (rewind client) c l = omega (arith, rewind_number (client_verdict client) c)

alone_limit : (calls : List Call) (c : Client) → c.served ≤ 500 → (client_alone calls c).served ≤ 500
unfolding client_alone
alone_limit [] c l = l
alone_limit (call ∷ calls) c l = alone_limit calls (client_after call c) (after-limit call c l)

-- ---- among the four

module _ {client : ℕ} (k : KnownClient client) (calls : List Call) where
  -- it counts the rows given to the client since; how many places of each are taken, m, makes no difference
  pub run_number : (m : ℕ) (s : Cursors) → Four s
      → (client_of (run calls s).state client).served ≡ (client_of s client).served + length (rows_given m (own_replies client calls (run calls s).replies))
  run_number m s four = let a = alone k calls s four in rw (a.answers, a.end) (alone_number m (own_calls client calls) (client_of s client))

  pub fresh_number : (m : ℕ) → (client_of (run calls fresh).state client).served ≡ length (rows_given m (own_replies client calls (run calls fresh).replies))
  fresh_number m = omega (arith, run_number m fresh refl, ap (λ (c : Client). c.served) (fresh_client k))

  -- and never passes 500
  pub run-limit : (s : Cursors) → Four s → (client_of s client).served ≤ 500 → (client_of (run calls s).state client).served ≤ 500
  run-limit s four l = rw (alone k calls s four).end (alone_limit (own_calls client calls) (client_of s client) l)

  pub fresh-limit : (client_of (run calls fresh).state client).served ≤ 500
  fresh-limit = run-limit fresh refl (omega (arith, ap (λ (c : Client). c.served) (fresh_client k)))

-- ---- 15 is not given while the client was served fewer than 500

then_accept : (v : Verdict) → and_then v (Ok tt) ≡ v
then_accept (Ok tt) = refl
then_accept (Err why) = refl

pub not_yet : (f : Pattern) (n client number : ℕ) → number < 500 → next_verdict f n client number ≡ and_then (input_verdict f n) (client_verdict client)
unfolding next_verdict
not_yet f n client number h = simp (lt-leb 500 number h, then_accept (client_verdict client))
