-- The definitions on bytes in std's words, which the contracts of its iterators and of `==` say; and a number, digit by digit. Assumes nothing.
use lib.Seq.{drop-length}
use Rattle.std.proofs.Common.{ℕ, suc, ◌+◌, ◌-◌, ◌*◌, ◌≤◌, ◌<◌, ◌⊎◌, Bool, true, false, cond, not, ◌&&◌, List, [], ◌∷◌, Option, Some, None, Bor, ◌≡◌, refl, sym, ◌∙◌, ap, length, get_or, drop, eqb, ltb, add-one, drop-cons, eq-eqb, le-leb, le-ltb, lt-ltb, ne_eqb, arith}
use borrow.Author.Tests.{ltb-false, ltb-true}
use Rattle.std.specs.Char.{is_ascii_digit}
use Rattle.std.proofs.lemmas.Bool.Decides.{nat_tests}
use Rattle.std.specs.Option.{option_map, unwrap_or}
use Rattle.std.proofs.lemmas.Option.{cond_some, none-some}
use mathlib.Core.Logic.{inl, inr}
use Rattle.std.specs.Cmp.Lexicographic.{pointwise}
use Rattle.std.specs.List.{list_all, onto_first, position_or_len, prefix_len, slice_split}
use Rattle.std.proofs.lemmas.List.Splits.{length-slice_split}
use Rattle.basics.specs.Choice.{pick}
use Rattle.format.specs.Bytes.{all_numbers, cut, decimal, is_number, more, number, on_first, parts, same, value}
use Rattle.format.specs.Names.{column}

-- ---- cutting

pub cut_within : (t : List ℕ) (sep : ℕ) → cut t sep ≤ length t
unfolding cut
cut_within [] sep = omega arith
cut_within (b ∷ t) sep = go (eqb b sep) (cut_within t sep)
  where
    go : (x : Bool) → cut t sep ≤ length t → pick x 0 (suc (cut t sep)) ≤ suc (length t)
    go true h = omega arith
    go false h = omega arith

pub cut_position : (s : List ℕ) (sep : ℕ) → cut s sep ≡ position_or_len (λ b. eqb b sep) s
unfolding cut
cut_position [] sep = refl
cut_position (b ∷ s) sep = go (eqb b sep) (cut_position s sep)
  where
    go : (x : Bool) → cut s sep ≡ position_or_len (λ b. eqb b sep) s → pick x 0 (suc (cut s sep)) ≡ cond (not x) (1 + position_or_len (λ b. eqb b sep) s) 0
    go true e = refl
    go false e = omega arith

pub found_some : (s : List ℕ) (sep k : ℕ) → Some k ≡ cond (ltb (position_or_len (λ b. eqb b sep) s) (length s)) (Some (position_or_len (λ b. eqb b sep) s)) None → (k ≡ cut s sep) × (k < length s)
found_some s sep k e =
    let n = position_or_len (λ b. eqb b sep) s in
    let h = cond_some (ltb n (length s)) n k (sym e) in
    (sym h.1 ∙ sym (cut_position s sep), omega (arith, ltb-true n (length s) h.0))

pub found_none : (s : List ℕ) (sep : ℕ) → None ≡ cond (ltb (position_or_len (λ b. eqb b sep) s) (length s)) (Some (position_or_len (λ b. eqb b sep) s)) None → length s ≡ cut s sep
found_none s sep e = go (ltb (position_or_len (λ b. eqb b sep) s) (length s)) refl e
  where
    go : (x : Bool) → ltb (position_or_len (λ b. eqb b sep) s) (length s) ≡ x → None ≡ cond x (Some (position_or_len (λ b. eqb b sep) s)) None → length s ≡ cut s sep
    go true q n = absurd (none-some _ n)
    go false q n = omega (arith, cut_position s sep, ltb-false (position_or_len (λ b. eqb b sep) s) (length s) q, cut_within s sep)

-- a part that was taken, or nothing
pub shown_or : (o : Option (Bor (List ℕ))) (d : Bor (List ℕ)) → (unwrap_or o d).now ≡ unwrap_or (option_map (λ x. x.now) o) d.now
shown_or None d = refl
shown_or (Some x) d = refl

on_some : (ls : List (List ℕ)) (b : ℕ) → 0 < length ls → on_first ls b ≡ onto_first b ls
on_some [] b h = absurd (omega arith)
on_some (l ∷ ls) b h = refl

pub parts_split : (s : List ℕ) (sep : ℕ) → parts s sep ≡ slice_split (λ b. eqb b sep) s
unfolding parts
parts_split [] sep = refl
parts_split (b ∷ s) sep = go (eqb b sep) (parts_split s sep)
  where
    go : (x : Bool) → parts s sep ≡ slice_split (λ b. eqb b sep) s → pick x ([] ∷ parts s sep) (on_first (parts s sep) b) ≡ cond x ([] ∷ slice_split (λ b. eqb b sep) s) (onto_first b (slice_split (λ b. eqb b sep) s))
    go true e = ap (λ (ls : List (List ℕ)). [] ∷ ls) e
    go false e = ap (λ (ls : List (List ℕ)). on_first ls b) e ∙ on_some _ b (omega (arith, length-slice_split (λ b. eqb b sep) s))

-- ---- tests

pub same_pointwise : (s t : List ℕ) → same s t ≡ pointwise eqb s t
unfolding same
same_pointwise [] [] = refl
same_pointwise [] (y ∷ t) = refl
same_pointwise (x ∷ s) [] = refl
same_pointwise (x ∷ s) (y ∷ t) = go (eqb x y) (same_pointwise s t)
  where
    go : (b : Bool) → same s t ≡ pointwise eqb s t → pick b (same s t) false ≡ (b && pointwise eqb s t)
    go true e = e
    go false e = refl

-- by `==` with some bytes
pub same_by_eq : (s t u : List ℕ) (r : Bool) → r ≡ pointwise eqb s t → t ≡ u → r ≡ same s u
same_by_eq s t u r e is = e ∙ ap (λ (l : List ℕ). pointwise eqb s l) is ∙ sym (same_pointwise s u)

-- by `!=` with some bytes
pub same_by_ne : (s t u : List ℕ) (r x : Bool) → r ≡ not (pointwise eqb s t) → t ≡ u → r ≡ x → same s u ≡ not x
same_by_ne s t u r x e is q = same_pointwise s u ∙ ap (λ (l : List ℕ). pointwise eqb s l) (sym is) ∙ go (pointwise eqb s t) (sym q ∙ e)
  where
    go : (b : Bool) → x ≡ not b → b ≡ not x
    go true h = rw h
    go false h = rw h

pub column_prefix : (fs : List (List ℕ)) (name : List ℕ) → column fs name ≡ prefix_len (λ f. not (pointwise eqb f name)) fs
unfolding column
column_prefix [] name = refl
column_prefix (f ∷ fs) name = rw (same_pointwise f name) (go (pointwise eqb f name) (column_prefix fs name))
  where
    go : (b : Bool) → column fs name ≡ prefix_len (λ f. not (pointwise eqb f name)) fs → pick b 0 (suc (column fs name)) ≡ cond (not b) (1 + prefix_len (λ f. not (pointwise eqb f name)) fs) 0
    go true e = refl
    go false e = omega arith

pub numbers_all : (ps : List (List ℕ)) → all_numbers ps ≡ list_all is_number ps
unfolding all_numbers
numbers_all [] = refl
numbers_all (p ∷ ps) = go (is_number p) (numbers_all ps)
  where
    go : (b : Bool) → all_numbers ps ≡ list_all is_number ps → pick b (all_numbers ps) false ≡ (b && list_all is_number ps)
    go true e = e
    go false e = refl

-- ---- a number

pub number_none : (s : List ℕ) → decimal s ≡ 65536 → None ≡ number s
number_none s e = rw e

pub number_some : (s : List ℕ) (v : ℕ) → decimal s ≡ v → v ≤ 65535 → Some v ≡ number s
number_some s v e h = rw (e, le-leb v 65535 h)

pub value_is : (s : List ℕ) → is_number s ≡ true → value s ≡ decimal s
unfolding value
value_is s e = simp e

pub number_or : (s : List ℕ) → unwrap_or (number s) 0 ≡ value s
unfolding value
number_or s = go (is_number s)
  where
    go : (x : Bool) → unwrap_or (pick x (Some (decimal s)) None) 0 ≡ pick x (decimal s) 0
    go true = refl
    go false = refl

-- what `is_ascii_digit` tells of a byte
pub digit_is : (b : ℕ) → is_ascii_digit b ≡ true → (48 ≤ b) × (b ≤ 57)
digit_is b e = grind (arith, nat_tests)

pub digit_not : (b : ℕ) → is_ascii_digit b ≡ false → (b < 48) ⊎ (57 < b)
digit_not b e = grind (arith, nat_tests)

-- its digits at a place, whose byte is b
module _ (s : List ℕ) (i v b : ℕ) (h : i < length s) (is : b ≡ get_or s i 0) where
  here : drop i s ≡ b ∷ drop (suc i) s
  here = rw is (drop-cons s i 0 h)

  pub more_not : (b < 48) ⊎ (57 < b) → more (drop i s) v ≡ 65536
  unfolding more
  more_not (inl l) = rw here (simp (lt-ltb _ _ l))
  more_not (inr g) = let l : 48 ≤ b = omega arith in rw here (simp (le-ltb _ _ l, lt-ltb _ _ g))

  pub more_large : 48 ≤ b → b ≤ 57 → 65535 < v * 10 + (b - 48) → more (drop i s) v ≡ 65536
  unfolding more
  more_large l g m = rw here (simp (le-ltb _ _ l, le-ltb _ _ g, lt-ltb _ _ m))

  pub more_next : 48 ≤ b → b ≤ 57 → v * 10 + (b - 48) ≤ 65535 → more (drop i s) v ≡ more (drop (i + 1) s) (v * 10 + (b - 48))
  unfolding more
  more_next l g m = rw (add-one, here) (simp (le-ltb _ _ l, le-ltb _ _ g, le-ltb _ _ m))

pub more_end : (s : List ℕ) (v : ℕ) → more (drop (length s) s) v ≡ v
unfolding more
more_end s v = rw (drop-length s)

-- its first byte
pub decimal_none : (s : List ℕ) → length s ≡ 0 → decimal s ≡ 65536
unfolding decimal
decimal_none [] h = refl
decimal_none (b ∷ s) h = absurd (omega arith)

pub decimal-padded : (s : List ℕ) → get_or s 0 0 ≡ 48 → 1 < length s → decimal s ≡ 65536
unfolding decimal
decimal-padded [] e h = absurd (omega arith)
decimal-padded (b ∷ s) e h = let k : length s ≡ 0 → ⊥ = λ q. omega arith in simp (eq-eqb _ _ e, ne_eqb _ _ k)

pub decimal_more : (s : List ℕ) → 0 < length s → ((get_or s 0 0 ≡ 48) × (length s ≤ 1)) ⊎ (get_or s 0 0 ≡ 48 → ⊥) → decimal s ≡ more s 0
unfolding decimal more
decimal_more [] z e = absurd (omega arith)
decimal_more (b ∷ []) z (inl e) = rw e.0
decimal_more (b ∷ (d ∷ s)) z (inl e) = absurd (omega arith)
decimal_more (b ∷ s) z (inr e) = simp (ne_eqb _ _ e)
