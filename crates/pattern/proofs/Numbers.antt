-- A slot's eight words one by one. Assumes nothing.
use Rattle.std.proofs.Common.{ℕ, arith, ◌≡◌, refl, List, [], ◌∷◌, length, get_or}

-- the words one by one
abbrev pub entries : List ℕ → List ℕ
entries w = get_or w 0 0 ∷ get_or w 1 0 ∷ get_or w 2 0 ∷ get_or w 3 0 ∷ get_or w 4 0 ∷ get_or w 5 0 ∷ get_or w 6 0 ∷ get_or w 7 0 ∷ []

pub eight_entries : (w : List ℕ) → length w ≡ 8 → entries w ≡ w
eight_entries [] e = absurd (omega arith)
eight_entries (a ∷ []) e = absurd (omega arith)
eight_entries (a ∷ b ∷ []) e = absurd (omega arith)
eight_entries (a ∷ b ∷ c ∷ []) e = absurd (omega arith)
eight_entries (a ∷ b ∷ c ∷ d ∷ []) e = absurd (omega arith)
eight_entries (a ∷ b ∷ c ∷ d ∷ f ∷ []) e = absurd (omega arith)
eight_entries (a ∷ b ∷ c ∷ d ∷ f ∷ g ∷ []) e = absurd (omega arith)
eight_entries (a ∷ b ∷ c ∷ d ∷ f ∷ g ∷ h ∷ []) e = absurd (omega arith)
eight_entries (a ∷ b ∷ c ∷ d ∷ f ∷ g ∷ h ∷ i ∷ []) e = refl
eight_entries (a ∷ b ∷ c ∷ d ∷ f ∷ g ∷ h ∷ i ∷ j ∷ w) e = absurd (omega arith)
