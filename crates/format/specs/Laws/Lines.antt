-- Lines: those that are printed are read again, and a file of which no line is left open is its lines, printed. Assumes nothing.
use Rattle.std.specs.Prelude.{ℕ, zero, suc, ◌+◌, ◌/◌, ◌%◌, ◌<◌, Bool, true, false, List, [], ◌∷◌, ◌++◌, map, ◌≡◌, refl, eqb, ltb, length, Err, Ok}
use Rattle.std.proofs.Common.{arith, append_assoc, sym, ◌∙◌, ap, subst, eqb-true, ne_eqb}
use Rattle.std.proofs.lemmas.Bool.{eqb-false}
use Rattle.basics.specs.Choice.{pick}
use Rattle.format.specs.Bytes.{ended, lines, on_first}
use Rattle.format.specs.Layouts.{Layout, scan}
use Rattle.basics.specs.Digits.{digits_in}
use Rattle.format.specs.Shown.{closed, digits}

-- no byte is `sep`
pub data Free (sep : ℕ) : List ℕ → Type 0 where
  free_none : Free sep []
  free_also : {b : ℕ} {s : List ℕ} → (b ≡ sep → ⊥) → Free sep s → Free sep (b ∷ s)

pub free_append : {sep : ℕ} {s t : List ℕ} → Free sep s → Free sep t → Free sep (s ++ t)
free_append free_none g = g
free_append (free_also h f) g = free_also h (free_append f g)

free_digit : (sep n : ℕ) → sep < 48 → Free sep ((48 + n) ∷ [])
free_digit sep n h = free_also (apart sep n h) free_none
  where
    apart : (a m : ℕ) → a < 48 → 48 + m ≡ a → ⊥
    apart a m k e = omega arith

free_in : (f sep n : ℕ) → sep < 48 → Free sep (digits_in f n)
unfolding digits_in
free_in zero sep n h = free_digit sep n h
free_in (suc f) sep n h = go (ltb n 10) (free_in f sep (n / 10) h)
  where
    go : (x : Bool) → Free sep (digits_in f (n / 10)) → Free sep (pick x ((48 + n) ∷ []) (digits_in f (n / 10) ++ ((48 + n % 10) ∷ [])))
    go true r = free_digit sep n h
    go false r = free_append r (free_digit sep (n % 10) h)

pub free_digits : (sep n : ℕ) → sep < 48 → Free sep (digits n)
unfolding digits
free_digits sep n h = free_in 4 sep n h

-- none of the lines has the byte
pub data AllFree (sep : ℕ) : List (List ℕ) → Type 0 where
  all_none : AllFree sep []
  all_also : {l : List ℕ} {ls : List (List ℕ)} → Free sep l → AllFree sep ls → AllFree sep (l ∷ ls)

pub all_digits : (sep : ℕ) → sep < 48 → (ws : List ℕ) → AllFree sep (map digits ws)
all_digits sep h [] = all_none
all_digits sep h (w ∷ ws) = all_also (free_digits sep w h) (all_digits sep h ws)

-- lines that are closed are read again
lines-line : {l : List ℕ} → Free 10 l → (t : List ℕ) → lines (l ++ 10 ∷ t) ≡ l ∷ lines t
unfolding lines
lines-line free_none t = refl
lines-line (free_also {b = b} h f) t = rw (ne_eqb b 10 h, lines-line f t)

-- lines one after the other
pub closed-append : (ls ms : List (List ℕ)) → closed (ls ++ ms) ≡ closed ls ++ closed ms
unfolding closed
closed-append [] ms = refl
closed-append (l ∷ ls) ms = ap (λ (s : List ℕ). l ++ 10 ∷ s) (closed-append ls ms) ∙ sym (append_assoc l (10 ∷ closed ls) (closed ms))

ended-line : (l t : List ℕ) (p : ℕ) → ended (l ++ 10 ∷ t) p ≡ ended t 10
unfolding ended
ended-line [] t p = refl
ended-line (b ∷ l) t p = ended-line l t b

pub lines-closed : {ls : List (List ℕ)} → AllFree 10 ls → lines (closed ls) ≡ ls
unfolding closed lines
lines-closed all_none = refl
lines-closed (all_also {l = l} {ls = ls} h f) = lines-line h (closed ls) ∙ ap (λ (k : List (List ℕ)). l ∷ k) (lines-closed f)

pub ended-closed : (ls : List (List ℕ)) → ended (closed ls) 10 ≡ true
unfolding closed ended
ended-closed [] = refl
ended-closed (l ∷ ls) = ended-line l (closed ls) 10 ∙ ended-closed ls

-- a file of which no line is left open is its lines, closed
pub closed_read : (s : List ℕ) (p : ℕ) → ended s p ≡ true → closed (lines s) ≡ s
unfolding closed lines ended
closed_read [] p h = refl
closed_read (b ∷ s) p h = go (eqb b 10) refl (lines s) (closed_read s b h)
  where
    left : closed [] ≡ s → eqb b 10 ≡ true
    left e = subst (λ (t : List ℕ). ended t b ≡ true) (sym e) h

    go : (x : Bool) → eqb b 10 ≡ x → (ls : List (List ℕ)) → closed ls ≡ s → closed (pick x ([] ∷ ls) (on_first ls b)) ≡ b ∷ s
    go true e ls r = rw (r, eqb-true b 10 e)
    go false e [] r = absurd (eqb-false b 10 e (eqb-true b 10 (left r)))
    go false e (l ∷ ls) r = ap (λ (t : List ℕ). b ∷ t) r

-- lines that are right
pub data AllRight (ok : List ℕ → Bool) : List (List ℕ) → Type 0 where
  no_line : AllRight ok []
  right_line : {l : List ℕ} {ls : List (List ℕ)} → ok l ≡ true → AllRight ok ls → AllRight ok (l ∷ ls)

wrong_right : (n m : ℕ) → ◌≡◌ {A = Layout} (Err n) (Ok m) → ⊥
wrong_right n m e = cc

pub scan_right : (ls : List (List ℕ)) (ok : List ℕ → Bool) (n : ℕ) → AllRight ok ls → scan ls ok true n ≡ Ok (n + length ls)
unfolding scan
scan_right [] ok n no_line = ap Ok (omega arith)
scan_right (l ∷ ls) ok n (right_line h r) = rw h (scan_right ls ok (n + 1) r ∙ ap Ok (omega arith))

pub scan_all : (ls : List (List ℕ)) (ok : List ℕ → Bool) (c : Bool) (n m : ℕ) → scan ls ok c n ≡ Ok m → AllRight ok ls × (c ≡ true)
unfolding scan
scan_all [] ok true n m e = (no_line, refl)
scan_all [] ok false n m e = absurd (wrong_right n m e)
scan_all (l ∷ ls) ok c n m e = go (ok l) refl e (scan_all ls ok c (n + 1) m)
  where
    go : (x : Bool) → ok l ≡ x → pick x (scan ls ok c (n + 1)) (Err n) ≡ Ok m → (scan ls ok c (n + 1) ≡ Ok m → AllRight ok ls × (c ≡ true)) → AllRight ok (l ∷ ls) × (c ≡ true)
    go true q k r = (right_line q (r k).0, (r k).1)
    go false q k r = absurd (wrong_right n m k)
