-- Lists of calls, and what the machine answers to them.
use Rattle.std.specs.Prelude.{ℕ, ◌≡◌, List, [], ◌∷◌, Option, Result}
use Rattle.pattern.specs.declared.Pattern.{Pattern}
use Rattle.pattern.specs.declared.refusal.Refusal.{Refusal}
use Rattle.cursors.specs.declared.Cursors.{Cursors}
use Rattle.cursors.specs.Machine.{Served, next_served, Rewound, rewound}
use Rattle.pattern.specs.Tests.{Verdict}

-- pattern and text come with each call of "next" and are not kept
pub data Call : Type 0 where
  next : (client : ℕ) (pattern : Pattern) (text : List ℕ) → Call
  rewind : (client : ℕ) → Call

-- what a call answers besides the state: the sixteen places that the search found, if any, or whether the client was refused
pub data Reply : Type 0 where
  served : Result (Option (List ℕ)) Refusal → Reply
  turned : Verdict → Reply

-- what a call of "next" answers
abbrev pub reply_of : Served → Reply
reply_of r = served r.answer

-- ---- the machine

-- what one call comes to
pub record Step : Type 0 where
  pub reply : Reply
  pub state : Cursors

-- a call of "next"
abbrev pub next_step : Served → Step
next_step r = record { reply = reply_of r; state = r.cursors }

-- a call of "rewind"
abbrev pub rewind_step : Rewound → Step
rewind_step r = record { reply = turned r.verdict; state = r.cursors }

-- one call
abbrev pub step : Call → Cursors → Step
step (next client f t) s = next_step (next_served s client f t)
step (rewind client) s = rewind_step (rewound s client)

-- what a list of calls comes to
pub record Run : Type 0 where
  pub replies : List Reply
  pub state : Cursors

-- one call after the other
unfoldable pub run : List Call → Cursors → Run
run [] s = record { replies = []; state = s }
run (call ∷ calls) s = record { replies = (step call s).reply ∷ (run calls (step call s).state).replies; state = (run calls (step call s).state).state }

-- ---- the calls of the library

-- calls that were made one after the other, each on the state that the one before it gave: from the first state to the last,
-- with what they answered. Of each call it holds what its contract says.
pub data History : Cursors → List Call → List Reply → Cursors → Type 0 where
  ended : {s : Cursors} → History s [] [] s
  nexts : {s last : Cursors} {client : ℕ} {f : Pattern} {t : List ℕ} {r : Served} {calls : List Call} {replies : List Reply}
      → r ≡ next_served s client f t → History r.cursors calls replies last → History s (next client f t ∷ calls) (reply_of r ∷ replies) last
  rewinds : {s last : Cursors} {client : ℕ} {r : Rewound} {calls : List Call} {replies : List Reply}
      → r ≡ rewound s client → History r.cursors calls replies last → History s (rewind client ∷ calls) (turned r.verdict ∷ replies) last
