-- Choices by a test.
use Rattle.std.specs.Prelude.{ℕ, Bool, true, false, List, []}

-- the first where the test holds, else the second
abbrev pub pick : {A : Type 0} → Bool → A → A → A
pick true a b = a
pick false a b = b

-- a list where the test holds, and none where not
unfoldable pub only : {A : Type 0} → Bool → List A → List A
only true xs = xs
only false xs = []

-- a number where the test holds, and 0 where not
unfoldable pub when : Bool → ℕ → ℕ
when true n = n
when false n = 0
