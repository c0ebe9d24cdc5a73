-- Bytes over a list, and what their writers leave.
use Rattle.std.specs.Prelude.{ℕ, ◌+◌, ◌-◌, min, ◌≡◌, List, ◌++◌, length, take, drop}

-- as many of the bytes as fit over the start of the list
abbrev pub overlaid : List ℕ → List ℕ → List ℕ
overlaid bytes out = take (length out) bytes ++ drop (length bytes) out

-- as many of the bytes as fit over the list from the index `at` on: none where it lies past the end
abbrev pub put_at : List ℕ → ℕ → List ℕ → List ℕ
put_at bytes at out = take at out ++ overlaid bytes (drop at out)

-- the index after them
abbrev pub next_at : List ℕ → ℕ → List ℕ → ℕ
next_at bytes at out = at + min (length bytes) (length out - at)

-- the bytes are written from the index `at` on, and the next byte goes to `next`
pub record Writes (bytes before : List ℕ) (at : ℕ) (after : List ℕ) (next : ℕ) : Type 0 where
  pub end : next ≡ next_at bytes at before
  pub contents : after ≡ put_at bytes at before
