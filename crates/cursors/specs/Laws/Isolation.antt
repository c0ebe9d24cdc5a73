-- Isolation: what a client is answered depends on its own calls alone, whatever the others call and however the calls interleave.
use Rattle.std.specs.Prelude.{ℕ, ◌≡◌, refl, Bool, true, false, List, [], ◌∷◌}
use Rattle.std.proofs.Common.{sym, ap, ◌∙◌}
use Rattle.basics.specs.Collections.{keep, select}
use Rattle.basics.specs.Laws.Collections.{select-every, select_all}
use Rattle.cursors.specs.declared.Cursors.{Cursors}
use Rattle.cursors.specs.Machine.{fresh, client_of}
use Rattle.cursors.specs.Calls.{Call, Reply, step, run, History}
use Rattle.cursors.specs.Clients.{KnownClient, owns, own_calls, own_replies}
use Rattle.cursors.specs.Laws.Storing.{Four}
use Rattle.cursors.specs.Laws.Alone.{client_alone, replies_alone, alone}
use Rattle.cursors.specs.Laws.Running.{machine}

-- ---- from any state

module _ {client : ℕ} (k : KnownClient client) (calls calls' : List Call) (agree : own_calls client calls ≡ own_calls client calls') (s : Cursors) (four : Four s) where
  run_isolated : own_replies client calls (run calls s).replies ≡ own_replies client calls' (run calls' s).replies
  run_isolated =
      (alone k calls s four).answers ∙ ap (λ (own : List Call). replies_alone own (client_of s client)) agree ∙ sym (alone k calls' s four).answers

  run_isolated_end : client_of (run calls s).state client ≡ client_of (run calls' s).state client
  run_isolated_end =
      (alone k calls s four).end ∙ ap (λ (own : List Call). client_alone own (client_of s client)) agree ∙ sym (alone k calls' s four).end

-- ---- for two lists of calls from a fresh state in which the client's own calls agree: the same in the same order, with the same patterns and texts

module _ {client : ℕ} (k : KnownClient client) {calls calls' : List Call} {replies replies' : List Reply} {last last' : Cursors}
    (h : History fresh calls replies last) (h' : History fresh calls' replies' last') (agree : own_calls client calls ≡ own_calls client calls') where
  -- its answers agree
  pub isolation : own_replies client calls replies ≡ own_replies client calls' replies'
  isolation = rw ((machine h).answers, (machine h').answers) (run_isolated k calls calls' agree fresh refl)

  -- and so do its marks and its number at the end
  pub isolation_end : client_of last client ≡ client_of last' client
  isolation_end = rw ((machine h).state, (machine h').state) (run_isolated_end k calls calls' agree fresh refl)

-- ---- so a client is answered, and left, as if it had called alone

own_twice : (client : ℕ) (calls : List Call) → own_calls client calls ≡ own_calls client (own_calls client calls)
own_twice client calls = sym (select_all (owns client) (select-every (owns client) (λ call e. e) calls))

all_own : (client : ℕ) (call : Call) (calls : List Call) (s : Cursors) (b : Bool) → owns client call ≡ b
    → ((u : Cursors) → own_replies client calls (run calls u).replies ≡ (run calls u).replies)
    → own_replies client (keep b call calls) (run (keep b call calls) s).replies ≡ (run (keep b call calls) s).replies
unfolding keep own_replies run
all_own client call calls s true e below = rw (e, below (step call s).state)
all_own client call calls s false e below = below s

own-replies : (client : ℕ) (calls : List Call) (s : Cursors) → own_replies client (own_calls client calls) (run (own_calls client calls) s).replies ≡ (run (own_calls client calls) s).replies
unfolding select own_replies run
own-replies client [] s = refl
own-replies client (call ∷ calls) s = all_own client call (own_calls client calls) s (owns client call) refl (own-replies client calls)

module _ {client : ℕ} (k : KnownClient client) (calls : List Call) (s : Cursors) (four : Four s) where
  pub as_alone : own_replies client calls (run calls s).replies ≡ (run (own_calls client calls) s).replies
  as_alone = run_isolated k calls (own_calls client calls) (own_twice client calls) s four ∙ own-replies client calls s

  pub as_alone_end : client_of (run calls s).state client ≡ client_of (run (own_calls client calls) s).state client
  as_alone_end = run_isolated_end k calls (own_calls client calls) (own_twice client calls) s four
