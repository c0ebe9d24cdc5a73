-- What the public calls answer: the tests in document 01's order, then what the meanings say.
use Rattle.std.specs.Prelude.{ℕ, ◌-◌, ◌*◌, ◌≡◌, not, List, ◌++◌, length, replicate, ltb, eqb, Option, Some, None, Result, Ok, Err}
use Rattle.std.proofs.Math.Option.{Option as Found, none, some}
use Rattle.pattern.specs.declared.Pattern.{Pattern}
use Rattle.pattern.specs.declared.refusal.Refusal.{Refusal}
use Rattle.pattern.specs.declared.refusal.Refusal.TheVariants.{RowLength, ListLength}
use Rattle.basics.specs.Choice.{pick}
use Rattle.pattern.specs.Tests.{Verdict, refuse, and_then, input_verdict}
use Rattle.matching.specs.Searches.{earliest, latest}
use Rattle.matching.specs.Lists.{leftmost, rightmost}
use Rattle.basics.specs.Written.{written}
use Rattle.matching.specs.Largest.{Largest}

-- 1 to 5, 16, 6, then 7, of a row or of marks
unfoldable pub row_verdict : Pattern → List ℕ → List ℕ → Verdict
row_verdict f t row = and_then (input_verdict f (length t)) (refuse (not (eqb (length row) f.count)) RowLength (Ok tt))

-- ---- the searches

-- a row as sixteen places, those past its slots 0
abbrev pub sixteen : List ℕ → List ℕ
sixteen r = r ++ replicate (16 - length r) 0

-- what a search found
abbrev pub searched : Found (List ℕ) → Option (List ℕ)
searched none = None
searched (some r) = Some (sixteen r)

-- where the tests come to the verdict
abbrev pub searched_by : Verdict → Found (List ℕ) → Result (Option (List ℕ)) Refusal
searched_by (Ok tt) found = Ok (searched found)
searched_by (Err why) found = Err why

-- the forward search (document 01: forward)
abbrev pub first_after : Pattern → List ℕ → List ℕ → Result (Option (List ℕ)) Refusal
first_after f t marks = searched_by (row_verdict f t marks) (earliest f t marks)

-- the backward search (document 01: backward)
abbrev pub last_before : Pattern → List ℕ → List ℕ → Result (Option (List ℕ)) Refusal
last_before f t marks = searched_by (row_verdict f t marks) (latest f t marks)

-- ---- the lists

-- what a list call answers where its tests up to 6 come to the verdict: rows of m places are to go into a list of `room` entries
abbrev pub listed : Verdict → ℕ → List (List ℕ) → ℕ → Result ℕ Refusal
listed (Ok tt) m R room = pick (ltb room (length R * m)) (Err (ListLength (length R))) (Ok (length R))
listed (Err why) m R room = Err why

-- what the list then holds: nothing is written on a refusal
abbrev pub filled : Verdict → ℕ → List (List ℕ) → List ℕ → List ℕ
filled (Ok tt) m R l = pick (ltb (length l) (length R * m)) l (written m R l)
filled (Err why) m R l = l

-- the answer for the front list (document 01: front list), for a list of n entries
abbrev pub front_listed : Pattern → List ℕ → ℕ → Result ℕ Refusal
front_listed f t n = listed (input_verdict f (length t)) f.count (leftmost f t) n

-- the caller's list at the end
abbrev pub front_written : Pattern → List ℕ → List ℕ → List ℕ
front_written f t l = filled (input_verdict f (length t)) f.count (leftmost f t) l

-- the answer for the back list (document 01: back list), for a list of n entries
abbrev pub back_listed : Pattern → List ℕ → ℕ → Result ℕ Refusal
back_listed f t n = listed (input_verdict f (length t)) f.count (rightmost f t) n

-- the caller's list at the end
abbrev pub back_written : Pattern → List ℕ → List ℕ → List ℕ
back_written f t l = filled (input_verdict f (length t)) f.count (rightmost f t) l

-- the count alone (document 01: count)
abbrev pub counted : Verdict → List (List ℕ) → Result ℕ Refusal
counted (Ok tt) R = Ok (length R)
counted (Err why) R = Err why

-- demand 3, of every accepted pattern and text
abbrev pub Best : Pattern → List ℕ → Type 0
Best f t = input_verdict f (length t) ≡ Ok tt → Largest f t (leftmost f t) (rightmost f t)
