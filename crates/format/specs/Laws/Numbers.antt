-- Numbers: reading what is printed, and printing what was read. Assumes nothing.
use Rattle.std.specs.Prelude.{ℕ, zero, suc, ◌+◌, ◌-◌, ◌*◌, ◌/◌, ◌%◌, ◌≤◌, ◌<◌, Bool, true, false, List, [], ◌∷◌, ◌++◌, ◌≡◌, refl, eqb, ltb, length}
use Rattle.std.proofs.Common.{arith, append_assoc, append-nil, sym, ◌∙◌, ap, eqb-true, le-ltb, lt-ltb, ltb-false, ltb-true, ne_eqb}
use Rattle.std.proofs.lemmas.Bool.{eqb-false}
use Rattle.basics.specs.Choice.{pick}
use Rattle.format.specs.Bytes.{decimal, more}
use Rattle.basics.specs.Digits.{digits_in, ten}
use Rattle.basics.specs.Laws.Digits.{digits_room}
use Rattle.format.specs.Shown.{digits}

-- one digit after a number
more_snoc : (s : List ℕ) (v w b : ℕ) → more s v ≡ w → w ≤ 65535 → 48 ≤ b → b ≤ 57 → w * 10 + (b - 48) ≤ 65535 → more (s ++ (b ∷ [])) v ≡ w * 10 + (b - 48)
unfolding more
more_snoc [] v w b e h l g m = rw e (simp (le-ltb _ _ l, le-ltb _ _ g, le-ltb _ _ m))
more_snoc (x ∷ s) v w b e h l g m = go (ltb x 48) (ltb 57 x) (ltb 65535 (v * 10 + (x - 48))) e (more_snoc s (v * 10 + (x - 48)) w b)
  where
    go : (p q r : Bool) → pick p 65536 (pick q 65536 (pick r 65536 (more s (v * 10 + (x - 48))))) ≡ w
        → (more s (v * 10 + (x - 48)) ≡ w → w ≤ 65535 → 48 ≤ b → b ≤ 57 → w * 10 + (b - 48) ≤ 65535 → more (s ++ (b ∷ [])) (v * 10 + (x - 48)) ≡ w * 10 + (b - 48))
        → pick p 65536 (pick q 65536 (pick r 65536 (more (s ++ (b ∷ [])) (v * 10 + (x - 48))))) ≡ w * 10 + (b - 48)
    go true q r k i = absurd (omega arith)
    go false true r k i = absurd (omega arith)
    go false false true k i = absurd (omega arith)
    go false false false k i = i k h l g m

one_digit : (n : ℕ) → n < 10 → more ((48 + n) ∷ []) 0 ≡ n
unfolding more
one_digit n h =
    let a : 48 ≤ 48 + n = omega arith in
    let b : 48 + n ≤ 57 = omega arith in
    let d : 0 * 10 + (48 + n - 48) ≤ 65535 = omega arith in
    rw (le-ltb (48 + n) 48 a, le-ltb 57 (48 + n) b, le-ltb 65535 (0 * 10 + (48 + n - 48)) d) (omega arith)

more_digits : (f n : ℕ) → n < ten f → n ≤ 65535 → more (digits_in f n) 0 ≡ n
unfolding digits_in
more_digits zero n h k = one_digit n h
more_digits (suc f) n h k = go (ltb n 10) refl (more_digits f (n / 10) (omega arith) (omega arith))
  where
    go : (x : Bool) → ltb n 10 ≡ x → more (digits_in f (n / 10)) 0 ≡ n / 10 → more (pick x ((48 + n) ∷ []) (digits_in f (n / 10) ++ ((48 + n % 10) ∷ []))) 0 ≡ n
    go true e r = one_digit n (ltb-true n 10 e)
    go false e r = more_snoc (digits_in f (n / 10)) 0 (n / 10) (48 + n % 10) r (omega arith) (omega arith) (omega arith) (omega arith) ∙ omega arith

-- the first digit is not 0
data Lead : List ℕ → Type 0 where
  lead : {b : ℕ} {s : List ℕ} → (b ≡ 48 → ⊥) → Lead (b ∷ s)

lead-append : {s : List ℕ} → Lead s → (t : List ℕ) → Lead (s ++ t)
lead-append (lead h) t = lead h

not_zero : (n : ℕ) → 0 < n → 48 + n ≡ 48 → ⊥
not_zero n z e = omega arith

lead-digits : (f n : ℕ) → 0 < n → n < ten f → Lead (digits_in f n)
unfolding digits_in
lead-digits zero n z h = lead (not_zero n z)
lead-digits (suc f) n z h = go (ltb n 10) refl (λ k. lead-digits f (n / 10) k (omega arith))
  where
    go : (x : Bool) → ltb n 10 ≡ x → (0 < n / 10 → Lead (digits_in f (n / 10))) → Lead (pick x ((48 + n) ∷ []) (digits_in f (n / 10) ++ ((48 + n % 10) ∷ [])))
    go true e r = lead (not_zero n z)
    go false e r = lead-append (r (omega (arith, ltb-false n 10 e))) ((48 + n % 10) ∷ [])

lead-decimal : {s : List ℕ} → Lead s → decimal s ≡ more s 0
unfolding decimal
lead-decimal (lead {b = b} h) = rw (ne_eqb b 48 h)

-- a number that is printed is read again
pub decimal-digits : (n : ℕ) → n ≤ 65535 → decimal (digits n) ≡ n
unfolding digits decimal digits_in
decimal-digits zero h = refl
decimal-digits (suc n) h = lead-decimal (lead-digits 4 (suc n) (omega arith) (omega arith)) ∙ more_digits 4 (suc n) (omega arith) h

digits-snoc : (v b : ℕ) → 0 < v → 48 ≤ b → b ≤ 57 → v * 10 + (b - 48) ≤ 65535 → digits (v * 10 + (b - 48)) ≡ digits v ++ (b ∷ [])
unfolding digits digits_in
digits-snoc v b z l g m =
    let t : 10 ≤ v * 10 + (b - 48) = omega arith in
    let q : (v * 10 + (b - 48)) / 10 ≡ v = omega arith in
    let r : 48 + (v * 10 + (b - 48)) % 10 ≡ b = omega arith in
    rw (le-ltb (v * 10 + (b - 48)) 10 t) (rw (q, r) (ap (λ (l : List ℕ). l ++ (b ∷ [])) (digits_room 3 v (omega arith))))

digits_more : (s : List ℕ) (v n : ℕ) → 0 < v → more s v ≡ n → n ≤ 65535 → digits n ≡ digits v ++ s
unfolding more
digits_more [] v n z e h = ap digits (sym e) ∙ sym (append-nil (digits v))
digits_more (b ∷ s) v n z e h = go (ltb b 48) (ltb 57 b) (ltb 65535 (v * 10 + (b - 48))) refl refl refl e (λ k. digits_more s (v * 10 + (b - 48)) n k)
  where
    go : (p q r : Bool) → ltb b 48 ≡ p → ltb 57 b ≡ q → ltb 65535 (v * 10 + (b - 48)) ≡ r
        → pick p 65536 (pick q 65536 (pick r 65536 (more s (v * 10 + (b - 48))))) ≡ n
        → (0 < v * 10 + (b - 48) → more s (v * 10 + (b - 48)) ≡ n → n ≤ 65535 → digits n ≡ digits (v * 10 + (b - 48)) ++ s)
        → digits n ≡ digits v ++ (b ∷ s)
    go true q r ep eq er k i = absurd (omega arith)
    go false true r ep eq er k i = absurd (omega arith)
    go false false true ep eq er k i = absurd (omega arith)
    go false false false ep eq er k i =
        i (omega arith) k h
        ∙ ap (λ (l : List ℕ). l ++ s) (digits-snoc v b z (ltb-false b 48 ep) (ltb-false 57 b eq) (ltb-false 65535 (v * 10 + (b - 48)) er))
        ∙ append_assoc (digits v) (b ∷ []) s

short : (n : ℕ) → n < 10 → digits n ≡ (48 + n) ∷ []
unfolding digits digits_in
short n h = rw (lt-ltb n 10 h)

-- a number that was read is printed again
pub digits_decimal : (s : List ℕ) (n : ℕ) → decimal s ≡ n → n ≤ 65535 → s ≡ digits n
unfolding decimal more digits digits_in
digits_decimal [] n e h = absurd (omega arith)
digits_decimal (b ∷ s) n e h = go (eqb b 48) refl (eqb (length s) 0) refl e
  where
    nil : (t : List ℕ) → length t ≡ 0 → t ≡ []
    nil [] q = refl
    nil (x ∷ t) q = absurd (omega arith)

    first : (p q r : Bool) → ltb b 48 ≡ p → ltb 57 b ≡ q → ltb 65535 (0 * 10 + (b - 48)) ≡ r → (b ≡ 48 → ⊥)
        → pick p 65536 (pick q 65536 (pick r 65536 (more s (0 * 10 + (b - 48))))) ≡ n → b ∷ s ≡ digits n
    first true q r ep eq er z k = absurd (omega arith)
    first false true r ep eq er z k = absurd (omega arith)
    first false false true ep eq er z k = absurd (omega arith)
    first false false false ep eq er z k =
        let l : 48 ≤ b = ltb-false b 48 ep in
        let g : b ≤ 57 = ltb-false 57 b eq in
        let w : 0 * 10 + (b - 48) < 10 = omega arith in
        let x : 48 + (0 * 10 + (b - 48)) ≡ b = omega arith in
        sym (digits_more s (0 * 10 + (b - 48)) n (omega arith) k h ∙ ap (λ (d : List ℕ). d ++ s) (short (0 * 10 + (b - 48)) w ∙ ap (λ (y : ℕ). y ∷ []) x))

    go : (x : Bool) → eqb b 48 ≡ x → (y : Bool) → eqb (length s) 0 ≡ y → pick x (pick y 0 65536) (more (b ∷ s) 0) ≡ n → b ∷ s ≡ digits n
    go true ex true ey k = let z : s ≡ [] = nil s (eqb-true (length s) 0 ey) in ap (λ (t : List ℕ). b ∷ t) z ∙ ap (λ (y : ℕ). y ∷ []) (eqb-true b 48 ex) ∙ ap digits k
    go true ex false ey k = absurd (omega arith)
    go false ex y ey k = first (ltb b 48) (ltb 57 b) (ltb 65535 (0 * 10 + (b - 48))) refl refl refl (eqb-false b 48 ex) k
