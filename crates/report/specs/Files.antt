-- The two files of an input: the first empty line parts them.
use Rattle.std.specs.Prelude.{ℕ, suc, ◌+◌, List, [], ◌∷◌, ◌&&◌, take, drop, eqb}
use Rattle.basics.specs.Choice.{pick}

-- the index of the first line feed right after a line feed, or the length, of bytes that stand after the byte `before`
unfoldable pub parting : List ℕ → ℕ → ℕ
parting [] before = 0
parting (b ∷ s) before = pick (eqb before 10 && eqb b 10) 0 (suc (parting s b))

-- a line feed that stands first closes an empty line too
abbrev pub parted : List ℕ → ℕ
parted input = parting input 10

-- what stands before it, the last line feed included
abbrev pub pattern_file : List ℕ → List ℕ
pattern_file input = take (parted input) input

-- what stands after it
abbrev pub text_file : List ℕ → List ℕ
text_file input = drop (parted input + 1) input
