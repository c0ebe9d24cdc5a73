-- Arrays: of one value, and filled from the start by a loop.
use Rattle.std.specs.Prelude.{ℕ, zero, suc, ◌+◌, ◌-◌, ◌≤◌, ◌<◌, ◌≡◌, refl, List, [], ◌∷◌, ◌++◌, length, get_or, set, drop, replicate}
use Rattle.std.proofs.Common.{zero-add, add-one, arith, sym, ◌∙◌, ap, get_or-set_same, get_or-set_other, below_more}
use Rattle.std.proofs.Math.Seq.{paste, paste-suc, take-length}
use Rattle.basics.specs.Written.{over}

-- the first i of the numbers ws stand over the start of d, and one more is stored
pub pasted_more : (d ws : List ℕ) (i : ℕ) → i < length d → i < length ws → set (paste d 0 ws i) i (get_or ws i 0) ≡ paste d 0 ws (i + 1)
pasted_more d ws i hd hs =
    ap (λ (k : ℕ). set (paste d 0 ws i) k (get_or ws i 0)) (sym (zero-add i)) ∙ paste-suc d 0 ws i 0 (omega arith) hs ∙ ap (λ (k : ℕ). paste d 0 ws k) (sym (add-one i))

-- all of them stand there
pub pasted_all : (d ws : List ℕ) → paste d 0 ws (length ws) ≡ over d ws
pasted_all d ws =
    ap (λ (l : List ℕ). l ++ drop (0 + length ws) d) (take-length ws) ∙ ap (λ (k : ℕ). ws ++ drop k d) (zero-add (length ws))

-- every entry of an array of zeros is 0
pub zeros_at : (n k : ℕ) → ◌≡◌ {A = ℕ} (get_or (replicate n 0) k 0) 0
zeros_at zero k = refl
zeros_at (suc n) zero = refl
zeros_at (suc n) (suc k) = zeros_at n k

-- what an array of one value leaves after its first n
pub drop-replicate : {A : Type 0} (n m : ℕ) (a : A) → drop n (replicate m a) ≡ replicate (m - n) a
drop-replicate zero m a = let z : m ≡ m - 0 = omega arith in ap (λ (k : ℕ). replicate k a) z
drop-replicate (suc n) zero a = let z : 0 ≡ 0 - suc n = omega arith in ap (λ (k : ℕ). replicate k a) z
drop-replicate (suc n) (suc m) a = let z : m - n ≡ suc m - suc n = omega arith in drop-replicate n m a ∙ ap (λ (k : ℕ). replicate k a) z

-- what stands past the end
pub at_past : (l : List ℕ) (k : ℕ) → length l ≤ k → get_or l k 0 ≡ 0
at_past [] k h = refl
at_past (x ∷ l) zero h = absurd (omega arith)
at_past (x ∷ l) (suc k) h = at_past l k (omega arith)

-- one more element has P
pub set_more : {A : Type 0} (d : A) (P : ℕ → A → Type 0) (l : List A) (j : ℕ) (v : A) → j < length l
    → ((k : ℕ) → k < j → P k (get_or l k d)) → P j v → (k : ℕ) → k < j + 1 → P k (get_or (set l j v) k d)
set_more d P l j v h before here = below_more _ j (λ k g. rw (get_or-set_other l j k v d (λ e. omega arith)) (before k g)) (rw (get_or-set_same l j v d h) here)

-- and the rest is still 0
pub set_rest : (l : List ℕ) (j v : ℕ) → ((k : ℕ) → j ≤ k → get_or l k 0 ≡ 0) → (k : ℕ) → j + 1 ≤ k → get_or (set l j v) k 0 ≡ 0
set_rest l j v h k g = get_or-set_other l j k v 0 (λ q. omega arith) ∙ h k (omega arith)
