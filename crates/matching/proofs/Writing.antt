-- The list as the rows are written into it, one after the other. Assumes nothing.
use Prim.Native.Nat.{ℕ, ◌+◌, ◌-◌, ◌*◌, ◌≤◌, ◌<◌}
use native.Mathlib.Omega.{arith}
use native.Mathlib.Nat.{add-mul, one-mul, zero-mul, mul-le-mul_right, mul-le-mul}
use mathlib.Core.List.{List, [], ◌∷◌, ◌++◌, append_assoc, append-nil}
use mathlib.Core.Bool.{true, false}
use mathlib.Core.Path.{◌≡◌, refl, sym, ap, ◌∙◌}
use borrow.Rule.Slice.PartMut.{put_mid}
use lib.ListN.{length, take, drop, replicate, length-append, length-drop, take-append-drop}
use lib.Seq.{paste, length-paste, length-take-le, take-append_seam, drop-append-add, drop-append_seam, drop-drop}
use Rattle.pattern.specs.declared.Pattern.{Pattern}
use Rattle.basics.specs.Collections.{Every}
use Rattle.matching.specs.Occurrence.{View}
use Rattle.matching.specs.Lists.{leftmost_in}
use Rattle.basics.specs.Written.{flat, written, row_over}
use Rattle.matching.specs.Steps.Settling.{Ready, Answered, Answer}
use Rattle.basics.specs.Laws.Collections.{every_map}
use Rattle.basics.specs.Laws.Written.{length-flat}
use Rattle.basics.specs.Laws.Lending.{row-pasted}
use Rattle.matching.proofs.Laws.Greedy.{run-hits}
use Rattle.matching.proofs.Finding.{Counted, counted_begin, counted_more, counted_all, counted_within}

-- ---- rows in a flat list

pub flat_append : (F G : List (List ℕ)) → flat (F ++ G) ≡ flat F ++ flat G
unfolding flat
flat_append [] G = refl
flat_append (r ∷ F) G = ap (λ (l : List ℕ). r ++ l) (flat_append F G) ∙ sym (append_assoc r (flat F) (flat G))

pub flat_one : (r : List ℕ) → flat (r ∷ []) ≡ r
unfolding flat
flat_one r = append-nil r

-- a row in the place of as many words
paste_mid : (X Y Z row : List ℕ) (n : ℕ) → length Y ≡ n → paste (X ++ (Y ++ Z)) (length X) row n ≡ X ++ (take n row ++ Z)
paste_mid X Y Z row n e =
    let l = X ++ (Y ++ Z) in
    ap (λ (x : List ℕ). (x ++ take n row) ++ drop (length X + n) l) (take-append_seam X (Y ++ Z))
    ∙ ap (λ (x : List ℕ). (X ++ take n row) ++ x) (drop-append-add X (Y ++ Z) n ∙ ap (λ (k : ℕ). drop k (Y ++ Z)) (sym e) ∙ drop-append_seam Y Z)
    ∙ append_assoc X (take n row) Z

pub mul_up : (k m : ℕ) → (k + 1) * m ≡ k * m + m
mul_up k m = omega (arith, add-mul k 1 m, one-mul m)

pub mul_within : (k rows m : ℕ) {size : ℕ} → k < rows → rows * m ≤ size → k * m + m ≤ size
mul_within k rows m h l = omega (arith, mul_up k m, mul-le-mul_right {m = k + 1} {n = rows} m (omega arith))

pub products_fit : {rows m : ℕ} → rows ≤ 20000 → m ≤ 16 → rows * m ≤ 320000
products_fit {rows} {m} h k = mul-le-mul {n₁ = rows} {m₁ = m} {n₂ = 20000} {m₂ = 16} h k

-- one row more
written_more : (m : ℕ) (F : List (List ℕ)) (row l₀ l : List ℕ) → l ≡ written m F l₀ → length F * m + m ≤ length l₀
    → Every (λ r. length r ≡ m) F → paste l (length F * m) row m ≡ written m (F ++ (take m row ∷ [])) l₀
written_more m F row l₀ l q room sizes =
    let r = take m row in
    let k = length F in
    let at = k * m in
    let X = flat F in
    let Y = take m (drop at l₀) in
    let Z = drop m (drop at l₀) in
    let lx : length X ≡ at = length-flat m sizes in
    let ly : length Y ≡ m = length-take-le m (drop at l₀) (omega (arith, length-drop at l₀)) in
    let whole : l ≡ X ++ (Y ++ Z) = q ∙ ap (λ (x : List ℕ). X ++ x) (sym (take-append-drop m (drop at l₀))) in
    let tail : Z ≡ drop (length (F ++ (r ∷ [])) * m) l₀ =
    drop-drop m at l₀ ∙ ap (λ (x : ℕ). drop x l₀) (sym (mul_up k m)) ∙ ap (λ (x : ℕ). drop (x * m) l₀) (sym (length-append F (r ∷ []))) in
    ap (λ (x : List ℕ). paste x at row m) whole
    ∙ ap (λ (x : ℕ). paste (X ++ (Y ++ Z)) x row m) (sym lx)
    ∙ paste_mid X Y Z row m ly
    ∙ sym (append_assoc X r Z)
    ∙ ap (λ (x : List ℕ). (X ++ x) ++ Z) (sym (flat_one r))
    ∙ ap (λ (x : List ℕ). x ++ Z) (sym (flat_append F (r ∷ [])))
    ∙ ap (λ (x : List ℕ). flat (F ++ (r ∷ [])) ++ x) tail

-- ---- the loop

pub record Writing (g : Pattern) (u : View) (l₀ l marks : List ℕ) (k : ℕ) : Type 0 where
  pub counted : Counted g u marks k
  pub content : l ≡ written g.count counted.rows l₀
  pub size : length l ≡ length l₀

pub writing_begin : (g : Pattern) (u : View) (l : List ℕ) → g.count ≤ 16 → Writing g u l l (replicate 16 0) 0
unfolding counted_begin flat
writing_begin g u l few = record { counted = counted_begin g u few; content = ap (λ (x : ℕ). drop x l) (sym (zero-mul g.count)); size = refl }

module _ {g : Pattern} {u : View} {l₀ l marks : List ℕ} {k : ℕ} (W : Writing g u l₀ l marks k) (ok : Ready g u.places) {a : Answer} (A : Answered g u marks a) where
  -- a row that was found has room
  pub room_next : a.found ≡ true → length (leftmost_in g u) * g.count ≤ length l₀ → k * g.count + g.count ≤ length l
  room_next e room =
      let h = counted_within (counted_more W.counted ok A e) ok in
      omega (arith, W.size, mul_within k (length (leftmost_in g u)) g.count (omega arith) room)

  writing_more : a.found ≡ true → length (leftmost_in g u) * g.count ≤ length l₀ → {l' : List ℕ}
      → l' ≡ paste l (k * g.count) a.places g.count → length l' ≡ length l → Writing g u l₀ l' a.places (k + 1)
  unfolding counted_more
  writing_more e room {l'} E L =
      let C = W.counted in
      let q : length C.rows * g.count ≡ k * g.count = ap (λ (x : ℕ). x * g.count) C.size in
      record {
        counted = counted_more C ok A e;
        content = E ∙ ap (λ (x : ℕ). paste l x a.places g.count) (sym q)
            ∙ written_more g.count C.rows a.places l₀ l W.content (omega (arith, room_next e room, W.size, q)) (every_map (λ r o. o.size) (run-hits C.run));
        size = L ∙ W.size;
      }

  -- the part of the list from there on was lent for the row
  pub writing_put : a.found ≡ true → length (leftmost_in g u) * g.count ≤ length l₀ → {ys : List ℕ}
      → ys ≡ row_over g.count a.places (take (length l - k * g.count) (drop (k * g.count) l)) → Writing g u l₀ (put_mid (k * g.count) (length l - k * g.count) l ys) a.places (k + 1)
  writing_put e room {ys} put =
      let fits = room_next e room in
      let whole : g.count ≤ length a.places = omega (arith, A.size e, ok.few) in
      let pasted = row-pasted l (k * g.count) (omega (arith, fits)) a.places ys g.count whole fits put in
      writing_more e room pasted (ap length pasted ∙ length-paste l (k * g.count) a.places g.count fits whole)

  pub writing_all : a.found ≡ false → l ≡ written g.count (leftmost_in g u) l₀
  writing_all e = W.content ∙ ap (λ (F : List (List ℕ)). written g.count F l₀) (counted_all W.counted ok A e)
