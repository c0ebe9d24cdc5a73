-- Lines value by value, and entry by entry.
use Rattle.std.proofs.Common.{ℕ, ◌+◌, ◌≤◌, ◌<◌, ◌≡◌, ◌∙◌, refl, sym, ap, arith, add-one, append_assoc, List, [], ◌∷◌, ◌++◌, length, get_or, drop, drop-cons, length-drop}
use Rattle.basics.specs.Digits.{digits_in}
use Rattle.format.specs.Shown.{closed, joined}
use Rattle.report.specs.Lines.{values, entry_line, entry_lines}
use Rattle.basics.specs.Writing.{Writes}
use Rattle.format.specs.Laws.Lines.{closed-append}
use Rattle.basics.specs.Laws.Writing.{writes_none, writes_same, writes_then}

-- ---- lines

-- a line before others
pub writes_line : (l : List ℕ) (ls : List (List ℕ)) {a b c : List ℕ} {h i j : ℕ} → Writes (l ++ (10 ∷ [])) a h b i → Writes (closed ls) b i c j → Writes (closed (l ∷ ls)) a h c j
unfolding closed
writes_line l ls v w = writes_same (append_assoc l (10 ∷ []) (closed ls)) (writes_then v w)

-- lines before others
pub writes_lines : (ls ms : List (List ℕ)) {a b c : List ℕ} {h i j : ℕ} → Writes (closed ls) a h b i → Writes (closed ms) b i c j → Writes (closed (ls ++ ms)) a h c j
writes_lines ls ms v w = writes_same (sym (closed-append ls ms)) (writes_then v w)

-- ---- values

last_value : (n : ℕ) → digits_in 19 n ++ (10 ∷ []) ≡ closed (values (n ∷ []) ∷ [])
unfolding closed joined
last_value n = refl

next_value : (n k : ℕ) (ns : List ℕ) → (digits_in 19 n ++ (32 ∷ [])) ++ closed (values (k ∷ ns) ∷ []) ≡ closed (values (n ∷ k ∷ ns) ∷ [])
unfolding closed joined
next_value n k ns = simp append_assoc

-- the last value of a line
pub writes_last : (n : ℕ) {a b : List ℕ} {i j : ℕ} → Writes (digits_in 19 n ++ (10 ∷ [])) a i b j → Writes (closed (values (n ∷ []) ∷ [])) a i b j
writes_last n w = writes_same (last_value n) w

-- a value before others
pub writes_value : (n k : ℕ) (ns : List ℕ) {a b c : List ℕ} {h i j : ℕ} → Writes (digits_in 19 n ++ (32 ∷ [])) a h b i
    → Writes (closed (values (k ∷ ns) ∷ [])) b i c j → Writes (closed (values (n ∷ k ∷ ns) ∷ [])) a h c j
writes_value n k ns v w = writes_same (next_value n k ns) (writes_then v w)

-- ---- entries

-- no entry
pub writes_entries : (m : ℕ) (front back : List ℕ) {out : List ℕ} {at : ℕ} → Writes (closed (entry_lines m front back 0)) out at out at
unfolding entry_lines closed
writes_entries m front back = writes_none

-- one entry more
pub writes_entry : (m : ℕ) (front back : List ℕ) (e : ℕ) {a b c : List ℕ} {i j k : ℕ} → Writes (closed (entry_lines m front back e)) a i b j
    → Writes (closed (entry_line m front back e ∷ [])) b j c k → Writes (closed (entry_lines m front back (e + 1))) a i c k
unfolding entry_lines
writes_entry m front back e v w =
    writes_same
    (ap (λ (n : ℕ). closed (entry_lines m front back n)) (sym (add-one e)))
    (writes_lines (entry_lines m front back e) (entry_line m front back e ∷ []) v w)

-- ---- what is left of a list

cons_first : {x y : ℕ} {xs ys : List ℕ} → x ∷ xs ≡ y ∷ ys → x ≡ y
cons_first e = cc

cons_rest : {x y : ℕ} {xs ys : List ℕ} → x ∷ xs ≡ y ∷ ys → xs ≡ ys
cons_rest e = cc

module _ (xs : List ℕ) (i : ℕ) {x : ℕ} {rest : List ℕ} (left : drop i xs ≡ x ∷ rest) where
  inside : i < length xs
  inside = omega (arith, length-drop i xs, ap length left)

  pub left_within : i + 1 ≤ length xs
  left_within = omega (arith, inside)

  pub left_first : x ≡ get_or xs i 0
  left_first = cons_first (sym left ∙ drop-cons xs i 0 inside)

  pub left_after : rest ≡ drop (i + 1) xs
  left_after = cons_rest (sym left ∙ drop-cons xs i 0 inside) ∙ ap (λ (n : ℕ). drop n xs) (sym (add-one i))
