-- The parting line feed, byte by byte. Assumes nothing.
use Rattle.std.specs.Prelude.{ℕ, suc, ◌+◌, ◌≤◌, ◌<◌, ◌≡◌, Bool, true, false, ◌&&◌, List, [], ◌∷◌, eqb, length, get_or, drop}
use Rattle.std.proofs.Common.{arith, add-one, sym, ap, drop_of_length-le, drop-cons}
use Rattle.basics.specs.Choice.{pick}
use Rattle.report.specs.Files.{parting}

pub parting_within : (s : List ℕ) (before : ℕ) → parting s before ≤ length s
unfolding parting
parting_within [] before = omega arith
parting_within (b ∷ s) before = go (eqb before 10 && eqb b 10) (parting_within s b)
  where
    go : (x : Bool) → parting s b ≤ length s → pick x 0 (suc (parting s b)) ≤ suc (length s)
    go true h = omega arith
    go false h = omega arith

-- no byte is left
pub parting_end : (s : List ℕ) (before i : ℕ) → length s ≤ i → parting (drop i s) before ≡ 0
unfolding parting
parting_end s before i h = rw (drop_of_length-le s h)

-- byte i parts
pub parting_here : (s : List ℕ) (before i : ℕ) → i < length s → (eqb before 10 && eqb (get_or s i 0) 10) ≡ true → parting (drop i s) before ≡ 0
unfolding parting
parting_here s before i h e = rw (drop-cons s i 0 h, e)

-- byte i does not
pub parting_on : (s : List ℕ) (before i : ℕ) → i < length s → (eqb before 10 && eqb (get_or s i 0) 10) ≡ false → parting (drop i s) before ≡ suc (parting (drop (i + 1) s) (get_or s i 0))
unfolding parting
parting_on s before i h e = rw (drop-cons s i 0 h, e) (ap (λ (k : ℕ). suc (parting (drop k s) (get_or s i 0))) (sym (add-one i)))
