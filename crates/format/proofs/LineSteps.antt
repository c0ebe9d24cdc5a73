-- A file's first line, closed or left open, and the lines one by one. Assumes nothing.
use Rattle.std.specs.Prelude.{Err, Ok, Result}
use Prim.Native.Nat.{ℕ, suc, ◌+◌, ◌≤◌, ◌<◌}
use native.Mathlib.Numerals.{add-one}
use native.Mathlib.Omega.{arith}
use mathlib.Core.Bool.{Bool, true, false}
use mathlib.Core.List.{List, [], ◌∷◌, map}
use mathlib.Core.Path.{◌≡◌, refl, sym, ◌∙◌, ap}
use lib.Dec.{eqb, ltb}
use lib.ListN.{length, get_or, take, drop, set, drop_of_length-le, length-drop}
use lib.Seq.{drop-cons, paste}
use borrow.Author.Tests.{eqb-true, le-ltb, lt-ltb, ltb-false, ltb-true}
use Rattle.basics.specs.Choice.{pick}
use Rattle.basics.specs.Laws.Arrays.{pasted_more as pasted-next}
use Rattle.format.specs.Bytes.{cut, decimal, ended, lines, on_first}
use Rattle.format.specs.Layouts.{Layout, scan}
use Rattle.format.specs.Steps.ClosedLines.{ClosedLine, OpenLine, laid}
use Rattle.pattern.specs.declared.refusal.Refusal.{Refusal}
use Rattle.format.specs.declared.reader.Line.{Line}
use Rattle.format.specs.Lines.{line_at}

lines_cut : (t : List ℕ) → cut t 10 < length t → lines t ≡ take (cut t 10) t ∷ lines (drop (suc (cut t 10)) t)
unfolding cut lines
lines_cut [] h = absurd (omega arith)
lines_cut (b ∷ t) h = go (eqb b 10) h (lines_cut t)
  where
    go : (x : Bool) → pick x 0 (suc (cut t 10)) < suc (length t) → (cut t 10 < length t → lines t ≡ take (cut t 10) t ∷ lines (drop (suc (cut t 10)) t))
        → pick x ([] ∷ lines t) (on_first (lines t) b) ≡ take (pick x 0 (suc (cut t 10))) (b ∷ t) ∷ lines (drop (suc (pick x 0 (suc (cut t 10)))) (b ∷ t))
    go true k r = refl
    go false k r = ap (λ (ls : List (List ℕ)). on_first ls b) (r (omega arith))

ended-cut : (t : List ℕ) (p : ℕ) → cut t 10 < length t → ended t p ≡ ended (drop (suc (cut t 10)) t) 10
unfolding cut ended
ended-cut [] p h = absurd (omega arith)
ended-cut (b ∷ t) p h = go (eqb b 10) refl h (ended-cut t b)
  where
    go : (x : Bool) → eqb b 10 ≡ x → pick x 0 (suc (cut t 10)) < suc (length t) → (cut t 10 < length t → ended t b ≡ ended (drop (suc (cut t 10)) t) 10)
        → ended t b ≡ ended (drop (suc (pick x 0 (suc (cut t 10)))) (b ∷ t)) 10
    go true e k r = ap (λ (q : ℕ). ended t q) (eqb-true b 10 e)
    go false e k r = r (omega arith)

lines_none : (t : List ℕ) → length t ≤ cut t 10 → lines t ≡ []
unfolding cut lines
lines_none [] h = refl
lines_none (b ∷ t) h = go (eqb b 10) h (lines_none t)
  where
    go : (x : Bool) → suc (length t) ≤ pick x 0 (suc (cut t 10)) → (length t ≤ cut t 10 → lines t ≡ []) → pick x ([] ∷ lines t) (on_first (lines t) b) ≡ []
    go true k r = absurd (omega arith)
    go false k r = ap (λ (ls : List (List ℕ)). on_first ls b) (r (omega arith))

ended_none : (t : List ℕ) (p : ℕ) → length t ≤ cut t 10 → (length t ≡ 0 → eqb p 10 ≡ false) → ended t p ≡ false
unfolding cut ended
ended_none [] p h k = k refl
ended_none (b ∷ t) p h k = go (eqb b 10) refl h (ended_none t b)
  where
    go : (x : Bool) → eqb b 10 ≡ x → suc (length t) ≤ pick x 0 (suc (cut t 10)) → (length t ≤ cut t 10 → (length t ≡ 0 → eqb b 10 ≡ false) → ended t b ≡ false) → ended t b ≡ false
    go true e m r = absurd (omega arith)
    go false e m r = r (omega arith) (λ _. e)

-- ---- the first line l

-- it is closed
pub record FirstLine (s : List ℕ) (l : Line) : Type 0 where
  pub inside : l.end < length s
  pub after : l.next ≡ l.end + 1
  pub closed : ClosedLine s (take l.end s) (drop l.next s)

module _ (s : List ℕ) (l : Line) (is : l ≡ line_at s 0) where
  ends : (l.end ≡ cut s 10) × (l.next ≡ pick (ltb (cut s 10) (length s)) (cut s 10 + 1) (cut s 10))
  unfolding line_at
  ends = let z : 0 + cut s 10 ≡ cut s 10 = omega arith in (ap (λ (k : Line). k.end) is ∙ z, ap (λ (k : Line). k.next) is ∙ rw z)

  pub first_open : l.end ≡ l.next → OpenLine s
  first_open h = go (ltb (cut s 10) (length s)) refl ends.1
    where
      go : (x : Bool) → ltb (cut s 10) (length s) ≡ x → l.next ≡ pick x (cut s 10 + 1) (cut s 10) → OpenLine s
      go true q n = absurd (omega (arith, ends.0))
      go false q n =
          let k : length s ≤ cut s 10 = ltb-false (cut s 10) (length s) q in
          record { none = lines_none s k; unended = λ z. ended_none s 10 k (λ y. absurd (omega arith)) }

  pub first_closed : (l.end ≡ l.next → ⊥) → FirstLine s l
  first_closed h = go (ltb (cut s 10) (length s)) refl ends.1
    where
      go : (x : Bool) → ltb (cut s 10) (length s) ≡ x → l.next ≡ pick x (cut s 10 + 1) (cut s 10) → FirstLine s l
      go true q n =
          let k : cut s 10 < length s = ltb-true (cut s 10) (length s) q in
          let e : suc (cut s 10) ≡ l.next = omega arith in
          record {
            inside = omega (arith, ends.0);
            after = omega (arith, ends.0);
            closed = record {
              first = lines_cut s k ∙ ap (λ (j : ℕ). take j s ∷ lines (drop (suc (cut s 10)) s)) (sym ends.0) ∙ ap (λ (j : ℕ). take l.end s ∷ lines (drop j s)) e;
              last = ended-cut s 10 k ∙ ap (λ (j : ℕ). ended (drop j s) 10) e;
              shorter = omega (arith, length-drop l.next s);
            };
          }
      go false q n = absurd (h (ends.0 ∙ sym n))

-- ---- what a scan finds

abbrev pub scanned : (List ℕ → Bool) → List ℕ → ℕ → Layout
scanned ok s n = scan (lines s) ok (ended s 10) n

module _ {s : List ℕ} (ok : List ℕ → Bool) (n : ℕ) where
  pub scan_next : {l t : List ℕ} → ClosedLine s l t → ok l ≡ true → scanned ok s n ≡ scanned ok t (n + 1)
  unfolding scan
  scan_next c k = rw (c.first, c.last) (simp k)

  pub scan-wrong : {l t : List ℕ} → ClosedLine s l t → ok l ≡ false → scanned ok s n ≡ Err n
  unfolding scan
  scan-wrong c k = rw c.first (simp k)

  pub scan_open : OpenLine s → 0 < length s → scanned ok s n ≡ Err n
  unfolding scan
  scan_open c k = rw (c.none, c.unended k)

pub scan_end : (s : List ℕ) (ok : List ℕ → Bool) (n : ℕ) → length s ≡ 0 → scanned ok s n ≡ Ok n
unfolding scan lines ended
scan_end [] ok n h = refl
scan_end (b ∷ s) ok n h = absurd (omega arith)

wrong_right : (n m : ℕ) → ◌≡◌ {A = Layout} (Err n) (Ok m) → ⊥
wrong_right n m e = cc

right_right : {n m : ℕ} → ◌≡◌ {A = Layout} (Ok n) (Ok m) → n ≡ m
right_right e = cc

-- what a layout of lines answers
pub laid_ok : {n : ℕ} {why : Refusal} → ◌≡◌ {A = Result ℕ Refusal} (Ok n) (Err why) → ⊥
laid_ok e = cc

pub laid_why : {a b : Refusal} → ◌≡◌ {A = Result ℕ Refusal} (Err a) (Err b) → a ≡ b
laid_why e = cc

same_ok : {m n : ℕ} → ◌≡◌ {A = Result ℕ Refusal} (Ok m) (Ok n) → m ≡ n
same_ok e = cc

pub laid_right : (first : ℕ) {n : ℕ} (y : Layout) → laid first y ≡ Ok n → y ≡ Ok n
laid_right first (Ok k) e = let s = same_ok e in ap Ok s
laid_right first (Err k) e = absurd (laid_ok (sym e))

-- a scan that is right: how many lines there are, and each passes
pub scan-count : (ls : List (List ℕ)) (ok : List ℕ → Bool) (closed : Bool) (n m : ℕ) → scan ls ok closed n ≡ Ok m → m ≡ n + length ls
unfolding scan
scan-count [] ok true n m e = omega (arith, right_right e)
scan-count [] ok false n m e = absurd (wrong_right n m e)
scan-count (l ∷ ls) ok closed n m e = go (ok l) e (scan-count ls ok closed (n + 1) m)
  where
    go : (x : Bool) → pick x (scan ls ok closed (n + 1)) (Err n) ≡ Ok m → (scan ls ok closed (n + 1) ≡ Ok m → m ≡ n + 1 + length ls) → m ≡ n + suc (length ls)
    go true q r = omega (arith, r q)
    go false q r = absurd (wrong_right n m q)

-- what a scan that is right says of the first line
pub record Stepped (ok : List ℕ → Bool) (l t : List ℕ) (n m : ℕ) : Type 0 where
  pub good : ok l ≡ true
  pub rest : scanned ok t (n + 1) ≡ Ok m

pub stepped : {s l t : List ℕ} → ClosedLine s l t → (ok : List ℕ → Bool) (n m : ℕ) → scanned ok s n ≡ Ok m → Stepped ok l t n m
stepped {s} {l} {t} c ok n m right = go (ok l) refl
  where
    go : (x : Bool) → ok l ≡ x → Stepped ok l t n m
    go true q = record { good = q; rest = sym (scan_next ok n c q) ∙ right }
    go false q = absurd (wrong_right n m (sym (scan-wrong ok n c q) ∙ right))

-- and where there is none left
pub none_left : {s : List ℕ} → OpenLine s → (ok : List ℕ → Bool) (n m : ℕ) → scanned ok s n ≡ Ok m → n ≡ m
none_left {s} o ok n m right = omega (arith, scan-count (lines s) ok (ended s 10) n m right, ap (λ (ls : List (List ℕ)). length ls) o.none)

-- ---- the words of the lines

abbrev pub values : List ℕ → List ℕ
values s = map decimal (lines s)

pub values_next : {s l t : List ℕ} → ClosedLine s l t → (v : ℕ) → v ≡ decimal l → values s ≡ v ∷ values t
values_next c v k = rw (c.first, k)

-- what is left of a list, one by one
pub record Left (ws rest : List ℕ) (n v : ℕ) : Type 0 where
  pub inside : n < length ws
  pub this : get_or ws n 0 ≡ v
  pub others : drop (n + 1) ws ≡ rest

pub left : (ws rest : List ℕ) (n v : ℕ) → drop n ws ≡ v ∷ rest → Left ws rest n v
left ws rest n v e =
    let h : n < length ws = omega (arith, length-drop n ws, ap (λ (l : List ℕ). length l) e) in
    let d : v ∷ rest ≡ get_or ws n 0 ∷ drop (suc n) ws = sym e ∙ drop-cons ws n 0 h in
    record { inside = h; this = cc; others = rw add-one (cc) }

pub pasted_more : (d ws : List ℕ) (i v : ℕ) → i < length d → i < length ws → get_or ws i 0 ≡ v → set (paste d 0 ws i) i v ≡ paste d 0 ws (i + 1)
pasted_more d ws i v hd hs e = ap (λ (x : ℕ). set (paste d 0 ws i) i x) (sym e) ∙ pasted-next d ws i hd hs

-- ---- the line at a place

pub line_past : (s : List ℕ) (at : ℕ) → length s ≤ at → record { end = at; next = at } ≡ line_at s at
unfolding line_at cut
line_past s at h =
    let d : drop at s ≡ [] = drop_of_length-le s {i = at} h in
    rw d (let e : at + 0 ≡ at = omega arith in rw (e, le-ltb at (length s) h))

module _ (s : List ℕ) (at e : ℕ) (is : e ≡ at + cut (drop at s) 10) where
  pub line_open : e ≡ length s → record { end = e; next = e } ≡ line_at s at
  unfolding line_at
  line_open h = let k : length s ≤ e = omega arith in rw (sym is) (rw (le-ltb e (length s) k))

  pub line-closed : e < length s → record { end = e; next = e + 1 } ≡ line_at s at
  unfolding line_at
  line-closed h = rw (sym is) (rw (lt-ltb e (length s) h))
