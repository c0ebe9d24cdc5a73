-- The parts of a line: those that are joined are read again, and a line is its parts, joined. Assumes nothing.
use Rattle.std.specs.Prelude.{ℕ, suc, ◌≤◌, ◌<◌, Bool, true, false, List, [], ◌∷◌, ◌++◌, map, ◌≡◌, refl, eqb, length, get_or}
use Rattle.std.proofs.Common.{arith, ◌∙◌, ap, eq-eqb, eqb-true, le-leb, leb-true, ne_eqb}
use Rattle.std.proofs.lemmas.Bool.{false≢true}
use Rattle.basics.specs.Choice.{pick}
use Rattle.format.specs.Bytes.{all_numbers, decimal, is_number, on_first, parts, same, value}
use Rattle.format.specs.Names.{column}
use Rattle.format.specs.Shown.{Small, also, digits, joined, none}
use Rattle.format.specs.Laws.Lines.{AllFree, Free, all_also, free_also, free_append, free_none}
use Rattle.format.specs.Laws.Numbers.{decimal-digits, digits_decimal}

parts_free : {sep : ℕ} {p : List ℕ} → Free sep p → parts p sep ≡ p ∷ []
unfolding parts
parts_free free_none = refl
parts_free {sep} (free_also {b = b} h f) = rw (ne_eqb b sep h, parts_free f)

parts_join : {sep : ℕ} {p : List ℕ} → Free sep p → (t : List ℕ) → parts (p ++ sep ∷ t) sep ≡ p ∷ parts t sep
unfolding parts
parts_join {sep} free_none t = rw (eq-eqb sep sep refl)
parts_join {sep} (free_also {b = b} h f) t = rw (ne_eqb b sep h, parts_join f t)

pub parts-joined : (sep : ℕ) (p : List ℕ) (ps : List (List ℕ)) → AllFree sep (p ∷ ps) → parts (joined (p ∷ ps) sep) sep ≡ p ∷ ps
unfolding joined
parts-joined sep p [] (all_also h r) = parts_free h
parts-joined sep p (q ∷ ps) (all_also h r) = parts_join h (joined (q ∷ ps) sep) ∙ ap (λ (l : List (List ℕ)). p ∷ l) (parts-joined sep q ps r)

pub parts_some : (s : List ℕ) (sep : ℕ) → parts s sep ≡ [] → ⊥
unfolding parts
parts_some [] sep e = let z : ◌≡◌ {A = ℕ} 0 1 = cc in omega arith
parts_some (b ∷ s) sep e = go (eqb b sep) (parts s sep) e (parts_some s sep)
  where
    go : (x : Bool) (ls : List (List ℕ)) → pick x ([] ∷ ls) (on_first ls b) ≡ [] → (ls ≡ [] → ⊥) → ⊥
    go true ls q r = let z : ◌≡◌ {A = ℕ} 0 1 = cc in omega arith
    go false [] q r = r refl
    go false (l ∷ ls) q r = let z : ◌≡◌ {A = ℕ} 0 1 = cc in omega arith

-- a line is its parts, joined
pub joined-parts : (s : List ℕ) (sep : ℕ) → joined (parts s sep) sep ≡ s
unfolding joined parts
joined-parts [] sep = refl
joined-parts (b ∷ s) sep = go (eqb b sep) refl (parts s sep) refl (joined-parts s sep)
  where
    go : (x : Bool) → eqb b sep ≡ x → (ls : List (List ℕ)) → parts s sep ≡ ls → joined ls sep ≡ s → joined (pick x ([] ∷ ls) (on_first ls b)) sep ≡ b ∷ s
    go x q [] e r = absurd (parts_some s sep e)
    go true q (l ∷ ls) e r = rw (r, eqb-true b sep q)
    go false q (l ∷ []) e r = ap (λ (t : List ℕ). b ∷ t) r
    go false q (l ∷ (k ∷ ls)) e r = ap (λ (t : List ℕ). b ∷ t) r

pub free_joined : (sep by : ℕ) → (by ≡ sep → ⊥) → (ps : List (List ℕ)) → AllFree sep ps → Free sep (joined ps by)
unfolding joined
free_joined sep by h [] r = free_none
free_joined sep by h (p ∷ []) (all_also f r) = f
free_joined sep by h (p ∷ (q ∷ ps)) (all_also f r) = free_append f (free_also h (free_joined sep by h (q ∷ ps) r))

-- numbers
pub value_digits : (n : ℕ) → n ≤ 65535 → value (digits n) ≡ n
unfolding value
value_digits n h = rw (decimal-digits n h) (rw (le-leb n 65535 h))

pub is_number_lem : (n : ℕ) → n ≤ 65535 → is_number (digits n) ≡ true
is_number_lem n h = rw (decimal-digits n h) (le-leb n 65535 h)

pub number_shown : (s : List ℕ) → is_number s ≡ true → s ≡ digits (value s)
unfolding value
number_shown s h = rw h (digits_decimal s (decimal s) refl (leb-true (decimal s) 65535 h))

pub number_small : (s : List ℕ) → is_number s ≡ true → value s ≤ 65535
unfolding value
number_small s h = rw h (leb-true (decimal s) 65535 h)

-- the words of a slot
pub words_right : {ws : List ℕ} → Small ws → all_numbers (map digits ws) ≡ true
unfolding all_numbers
words_right none = refl
words_right (also {n = n} h r) = rw (is_number_lem n h) (words_right r)

pub words_read : {ws : List ℕ} → Small ws → map value (map digits ws) ≡ ws
words_read none = refl
words_read (also {n = n} {ns = ns} h r) = ap (λ (k : ℕ). k ∷ map value (map digits ns)) (value_digits n h) ∙ ap (λ (k : List ℕ). n ∷ k) (words_read r)

pub words-shown : (ps : List (List ℕ)) → all_numbers ps ≡ true → (ps ≡ map digits (map value ps)) × Small (map value ps)
unfolding all_numbers
words-shown [] h = (refl, none)
words-shown (p ∷ ps) h = go (is_number p) refl h (words-shown ps)
  where
    go : (x : Bool) → is_number p ≡ x → pick x (all_numbers ps) false ≡ true → (all_numbers ps ≡ true → (ps ≡ map digits (map value ps)) × Small (map value ps))
        → (p ∷ ps ≡ map digits (map value (p ∷ ps))) × Small (map value (p ∷ ps))
    go true q k r =
        (ap (λ (l : List ℕ). l ∷ ps) (number_shown p q) ∙ ap (λ (l : List (List ℕ)). digits (value p) ∷ l) (r k).0, also (number_small p q) (r k).1)
    go false q k r = absurd (false≢true k)

-- ---- names

pub same_eq : (s t : List ℕ) → same s t ≡ true → s ≡ t
unfolding same
same_eq [] [] e = refl
same_eq [] (y ∷ t) e = absurd (false≢true e)
same_eq (x ∷ s) [] e = absurd (false≢true e)
same_eq (x ∷ s) (y ∷ t) e = go (eqb x y) refl e (same_eq s t)
  where
    go : (b : Bool) → eqb x y ≡ b → pick b (same s t) false ≡ true → (same s t ≡ true → s ≡ t) → x ∷ s ≡ y ∷ t
    go true q k r = ap (λ (z : ℕ). z ∷ s) (eqb-true x y q) ∙ ap (λ (l : List ℕ). y ∷ l) (r k)
    go false q k r = absurd (false≢true k)

-- a name stands in its column
pub column_is : (fs : List (List ℕ)) (name : List ℕ) → column fs name < length fs → get_or fs (column fs name) [] ≡ name
unfolding column
column_is [] name h = absurd (omega arith)
column_is (f ∷ fs) name h = go (same f name) refl h (column_is fs name)
  where
    go : (x : Bool) → same f name ≡ x → pick x 0 (suc (column fs name)) < suc (length fs) → (column fs name < length fs → get_or fs (column fs name) [] ≡ name) → get_or (f ∷ fs) (pick x 0 (suc (column fs name))) [] ≡ name
    go true q k r = same_eq f name q
    go false q k r = r (omega arith)
