-- The theorem over lists of calls.
use Rattle.std.specs.Prelude.{◌≡◌, refl, List, ◌∷◌}
use Rattle.std.proofs.Common.{ap}
use Rattle.cursors.specs.declared.Cursors.{Cursors}
use Rattle.cursors.specs.Machine.{fresh, Served}
use Rattle.cursors.specs.Calls.{Call, Reply, reply_of, rewind_step, step, run, History, ended, nexts, rewinds}

-- replies and last state are those of the machine
pub record Machine (calls : List Call) (s : Cursors) (replies : List Reply) (last : Cursors) : Type 0 where
  pub answers : replies ≡ (run calls s).replies
  pub state : last ≡ (run calls s).state

machine_more : {call : Call} {calls : List Call} {s : Cursors} {reply : Reply} {mid : Cursors} {replies : List Reply} {last : Cursors}
    → reply ≡ (step call s).reply → mid ≡ (step call s).state → Machine calls mid replies last → Machine (call ∷ calls) s (reply ∷ replies) last
unfolding run
machine_more {call} {calls} {s} {reply} {mid} {replies} {last} e d m = record {
  answers = rw (e, m.answers, d);
  state = rw (m.state, d);
}

pub machine-from : {s : Cursors} {calls : List Call} {replies : List Reply} {last : Cursors} → History s calls replies last → Machine calls s replies last
unfolding run
machine-from ended = record { answers = refl; state = refl }
machine-from (nexts e h) = machine_more (ap reply_of e) (ap (λ (r : Served). r.cursors) e) (machine-from h)
machine-from (rewinds e h) = machine_more (ap (λ r. (rewind_step r).reply) e) (ap (λ r. (rewind_step r).state) e) (machine-from h)

-- For every list of calls from a fresh state, answers and end state are those of the machine (document 01, "The editors' desk"; document 02, Job 6).
pub machine : {calls : List Call} {replies : List Reply} {last : Cursors} → History fresh calls replies last → Machine calls fresh replies last
machine h = machine-from h
