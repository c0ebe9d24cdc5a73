-- The machine of document 01, "The editors' desk", with a number for each editor (document 02, Job 6). Here its editors are clients, and
-- "handed out" is served.
use Rattle.std.specs.Prelude.{ℕ, ◌+◌, ◌-◌, List, [], ◌++◌, length, get_or, take, drop, set, replicate, ltb, leb, eqb, Option, Result, Ok, Err}
use Rattle.std.proofs.Math.Option.{Option as Found, none, some}
use Rattle.pattern.specs.declared.Pattern.{Pattern}
use Rattle.pattern.specs.declared.refusal.Refusal.{Refusal}
use Rattle.pattern.specs.declared.refusal.Refusal.TheVariants.{Client as NoClient, Served as TooMany}
use Rattle.pattern.specs.Tests.{Verdict, refuse, and_then, input_verdict}
use Rattle.matching.specs.Searches.{earliest}
use Rattle.matching.specs.Answers.{searched_by}
use Rattle.cursors.specs.declared.Client.{Client}
use Rattle.cursors.specs.declared.Cursors.{Cursors}

-- ---- the state

-- a client at the start: its marks are 0, and nothing was served to it
abbrev pub unserved : Client
unserved = record { marks = replicate 16 0; served = 0 }

-- the fresh state: all 0
abbrev pub fresh : Cursors
fresh = record { clients = replicate 4 unserved }

-- what the logic has past the end of an array of clients
abbrev pub nobody : Client
nobody = record { marks = []; served = 0 }

-- a client; they are counted from 1
abbrev pub client_of : Cursors → ℕ → Client
client_of s client = get_or s.clients (client - 1) nobody

-- the state with this in a client's place
abbrev pub with_client : Cursors → ℕ → Client → Cursors
with_client s client after = record { clients = set s.clients (client - 1) after }

-- a client once it was served the row, which becomes its first marks: the later ones stay, and its number is one more
abbrev pub moved : List ℕ → Client → Client
moved row before = record { marks = row ++ drop (length row) before.marks; served = before.served + 1 }

-- a client once it was rewound: its marks are 0, and its number stays
abbrev pub restarted : Client → Client
restarted before = record { marks = replicate 16 0; served = before.served }

-- ---- the tests

-- 14
unfoldable pub client_verdict : ℕ → Verdict
client_verdict client = refuse (eqb client 0) NoClient (refuse (ltb 4 client) NoClient (Ok tt))

-- 1 to 5, 16, 6, 14 and 15, of a pattern, a text of n words, a client and the number that it was served
unfoldable pub next_verdict : Pattern → ℕ → ℕ → ℕ → Verdict
next_verdict f n client served = and_then (input_verdict f n) (and_then (client_verdict client) (refuse (leb 500 served) TooMany (Ok tt)))

-- ---- next

-- a client's first marks, as many as the pattern has slots
abbrev pub first_marks : Client → Pattern → List ℕ
first_marks asking f = take f.count asking.marks

-- the row that is next for a client: the forward search from its first marks
abbrev pub next_row : Client → Pattern → List ℕ → Found (List ℕ)
next_row asking f t = earliest f t (first_marks asking f)

-- the state that is left where the tests come to the verdict and the search to a row or none
abbrev pub left_by : Verdict → Found (List ℕ) → Cursors → ℕ → Cursors
left_by (Ok tt) (some row) s client = with_client s client (moved row (client_of s client))
left_by (Ok tt) none s client = s
left_by (Err why) found s client = s

-- what a call of "next" comes to: the state that it leaves, and what a search answers
pub record Served : Type 0 where
  pub cursors : Cursors
  pub answer : Result (Option (List ℕ)) Refusal

-- where the tests and the search come to these
abbrev pub served_by : Verdict → Found (List ℕ) → Cursors → ℕ → Served
served_by v found s client = record { cursors = left_by v found s client; answer = searched_by v found }

-- 15 reads the number of the client that calls (document 01: next; document 02, Job 6)
unfoldable pub next_served : Cursors → ℕ → Pattern → List ℕ → Served
next_served s client f t = served_by (next_verdict f (length t) client (client_of s client).served) (next_row (client_of s client) f t) s client

-- ---- rewind

-- what a call of "rewind" comes to: the state that it leaves, and whether it was refused
pub record Rewound : Type 0 where
  pub cursors : Cursors
  pub verdict : Verdict

-- where the test comes to the verdict
abbrev pub rewound_by : Verdict → Cursors → ℕ → Rewound
rewound_by (Ok tt) s client = record { cursors = with_client s client (restarted (client_of s client)); verdict = Ok tt }
rewound_by (Err why) s client = record { cursors = s; verdict = Err why }

-- 14 alone is tested (document 01: rewind)
unfoldable pub rewound : Cursors → ℕ → Rewound
rewound s client = rewound_by (client_verdict client) s client
