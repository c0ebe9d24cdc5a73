-- Runs of rows, and rows put into a list one after the other.
use Rattle.std.specs.Prelude.{◌≡◌, ℕ, zero, suc, ◌+◌, ◌-◌, ◌*◌, ◌<◌, ◌≤◌, List, [], ◌∷◌, ◌++◌, length, take, drop, refl}
use Rattle.std.proofs.Common.{add-mul, suc-mul, zero-mul, arith, sym, ap, ◌∙◌, append-nil, append_assoc, length-append, take-append-drop, take_all, drop-drop}
use Rattle.std.proofs.Math.Seq.{paste}
use Rattle.std.proofs.lemmas.List.Edits.{take-paste, drop-paste, length-paste}
use Rattle.basics.specs.Collections.{Every, none, more}
use Rattle.basics.specs.Sums.{gather}
use Rattle.matching.specs.Occurrences.{places}
use Rattle.basics.specs.Written.{flat, written}
use Rattle.counting.specs.Steps.Walks.{run, put}

-- ---- runs

gather_split : (a b k : ℕ) (g : ℕ → List (List ℕ)) (x y : ℕ) → k ≡ a + b → y ≡ x + a → gather g (places x k) ≡ gather g (places x a) ++ gather g (places y b)
unfolding gather places
gather_split zero b k g x y e d = let p : k ≡ b = omega arith in let q : y ≡ x = omega arith in rw (p, q)
gather_split (suc a) b zero g x y e d = absurd (omega arith)
gather_split (suc a) b (suc k) g x y e d =
    ap (λ (R : List (List ℕ)). g x ++ R) (gather_split a b k g (suc x) y (omega arith) (omega arith))
    ∙ sym (append_assoc (g x) (gather g (places (suc x) a)) (gather g (places y b)))

-- two functions that agree, each from its own place on
pub gather_same : (n : ℕ) (g h : ℕ → List (List ℕ)) (x y : ℕ) → ((k : ℕ) → k < n → g (x + k) ≡ h (y + k)) → gather g (places x n) ≡ gather h (places y n)
unfolding gather places
gather_same zero g h x y e = refl
gather_same (suc n) g h x y e =
    let a : x + 0 ≡ x = omega arith in
    let b : y + 0 ≡ y = omega arith in
    let first : g x ≡ h y = rw (a, b) at (e 0 (omega arith)) in
    rw (first, gather_same n g h (suc x) (suc y) (λ k l. let c : suc x + k ≡ x + suc k = omega arith in let d : suc y + k ≡ y + suc k = omega arith in rw (c, d) (e (suc k) (omega arith))))

gather_none : (n : ℕ) (g : ℕ → List (List ℕ)) (x : ℕ) → ((q : ℕ) → x ≤ q → q < x + n → g q ≡ []) → gather g (places x n) ≡ []
unfolding gather places
gather_none zero g x h = refl
gather_none (suc n) g x h = rw (h x (omega arith) (omega arith)) (gather_none n g (suc x) (λ q a b. h q (omega arith) (omega arith)))

module _ (g : ℕ → List (List ℕ)) (x y : ℕ) where
  pub run_split : (z : ℕ) → x ≤ y → y ≤ z → run g x z ≡ run g x y ++ run g y z
  unfolding run
  run_split z a b = gather_split (y - x) (z - y) (z - x) g x y (omega arith) (omega arith)

  pub length_run : (z : ℕ) → x ≤ y → y ≤ z → length (run g x z) ≡ length (run g x y) + length (run g y z)
  length_run z a b = ap length (run_split z a b) ∙ length-append (run g x y) (run g y z)

  pub run_none : ((q : ℕ) → x ≤ q → q < y → g q ≡ []) → run g x y ≡ []
  unfolding run
  run_none h = gather_none (y - x) g x (λ q a b. h q a (omega arith))

pub run_one : (g : ℕ → List (List ℕ)) (x : ℕ) → run g x (x + 1) ≡ g x
unfolding run gather places
run_one g x = let e : x + 1 - x ≡ 1 = omega arith in rw e (append-nil (g x))

module _ (g : ℕ → List (List ℕ)) (x y z : ℕ) (a : x ≤ y) where
  -- rows that start between y and z are none
  pub run_skip : y ≤ z → ((q : ℕ) → y ≤ q → q < z → g q ≡ []) → run g x z ≡ run g x y
  run_skip b h = run_split g x y z a b ∙ ap (λ (R : List (List ℕ)). run g x y ++ R) (run_none g y z h) ∙ append-nil (run g x y)

  pub run_more : y + 1 ≤ z → ((q : ℕ) → y + 1 ≤ q → q < z → g q ≡ []) → run g x z ≡ run g x y ++ g y
  run_more b h =
      run_split g x y z a (omega arith)
      ∙ ap (λ (R : List (List ℕ)). run g x y ++ R) (run_split g y (y + 1) z (omega arith) b ∙ ap (λ (R : List (List ℕ)). run g y (y + 1) ++ R) (run_none g (y + 1) z h) ∙ append-nil (run g y (y + 1)) ∙ run_one g y)

  -- the rows that start at y are among those of the run
  pub run-part : y < z → length (run g x y) + length (g y) ≤ length (run g x z)
  run-part b =
      let e = ap length (run_split g x y z a (omega arith)) ∙ length-append (run g x y) (run g y z) in
      let d = ap length (run_split g y (y + 1) z (omega arith) (omega arith)) ∙ length-append (run g y (y + 1)) (run g (y + 1) z) in
      let c = ap length (run_one g y) in
      omega arith

empty_length : {R : List (List ℕ)} → R ≡ [] → length R ≡ 0
empty_length e = rw e

pub length_empty : (R : List (List ℕ)) → length R ≤ 0 → R ≡ []
length_empty [] h = refl
length_empty (r ∷ R) h = absurd (omega arith)

pub run_some : (g : ℕ → List (List ℕ)) (x y z : ℕ) → x ≤ y → y < z → run g x z ≡ [] → g y ≡ []
run_some g x y z a b e = let l = empty_length e in length_empty (g y) (omega (arith, run-part g x y z a b))

-- ---- rows in a list

pub put-append : (R S : List (List ℕ)) (m a b : ℕ) (l : List ℕ) → b ≡ a + length R → put m a (R ++ S) l ≡ put m b S (put m a R l)
unfolding put
put-append [] S m a b l e = let d : b ≡ a = omega arith in rw d
put-append (r ∷ R) S m a b l e = put-append R S m (suc a) b (paste l (a * m) r m) (omega arith)

put_over : (R : List (List ℕ)) (m a : ℕ) (l : List ℕ) → Every (λ r. length r ≡ m) R → (a + length R) * m ≤ length l
    → put m a R l ≡ take (a * m) l ++ (flat R ++ drop ((a + length R) * m) l)
unfolding put flat
put_over [] m a l none h = let e : a + 0 ≡ a = omega arith in rw e (sym (take-append-drop (a * m) l))
put_over (r ∷ R) m a l (more q p) h =
    let n = length R in
    let e : (a + suc n) * m ≡ a * m + m + n * m = let c : a + suc n ≡ a + 1 + n = omega arith in rw c (omega (arith, add-mul (a + 1) n m, add-mul a 1 m)) in
    let d : (suc a + n) * m ≡ a * m + m + n * m = omega (arith, add-mul (suc a) n m, suc-mul a m) in
    let s : suc a * m ≡ a * m + m = suc-mul a m in
    let long : length (paste l (a * m) r m) ≡ length l = length-paste l (a * m) r m (omega arith) (omega arith) in
    let front : take (a * m + m) (paste l (a * m) r m) ≡ take (a * m) l ++ take m r = take-paste l (a * m) r m (omega arith) (omega arith) in
    let back : drop (a * m + m) (paste l (a * m) r m) ≡ drop (a * m + m) l = drop-paste l (a * m) r m (omega arith) (omega arith) in
    let whole : take m r ≡ r = take_all m r (omega arith) in
    let back' : drop (a * m + m + n * m) (paste l (a * m) r m) ≡ drop (a * m + m + n * m) l =
    sym (drop-drop (n * m) (a * m + m) (paste l (a * m) r m)) ∙ ap (drop (n * m)) back ∙ drop-drop (n * m) (a * m + m) l in
    put_over R m (suc a) (paste l (a * m) r m) p (omega arith)
    ∙ rw (d, s, e, front, back', whole) (append_assoc (take (a * m) l) r (flat R ++ drop (a * m + m + n * m) l) ∙ ap (λ (o : List ℕ). take (a * m) l ++ o) (sym (append_assoc r (flat R) (drop (a * m + m + n * m) l))))

pub put_written : (R : List (List ℕ)) (m : ℕ) (l : List ℕ) → Every (λ r. length r ≡ m) R → length R * m ≤ length l → put m 0 R l ≡ written m R l
put_written R m l p h = let z : 0 + length R ≡ length R = omega arith in rw (z, zero-mul m) at (put_over R m 0 l p (rw z h))
