-- The list calls as equations: the rows that were found are the front list or, turned round, the back list. Assumes nothing.
use Rattle.std.specs.Prelude.{Ok, Err}
use Prim.Native.Nat.{ℕ, ◌*◌, ◌≤◌, ◌<◌}
use native.Mathlib.Omega.{arith}
use native.Mathlib.Nat.{mul-le-mul_right}
use mathlib.Core.List.{List, ◌++◌, map, reverse}
use mathlib.Core.Bool.{Bool, true, false}
use mathlib.Core.Path.{◌≡◌, refl, sym, ap, ◌∙◌}
use lib.ListN.{length, take, drop, length-map, length-reverse}
use lib.Seq.{take_at, drop_at}
use borrow.Author.Tests.{lt-ltb, le-ltb}
use Rattle.pattern.specs.declared.Pattern.{Pattern}
use Rattle.pattern.specs.declared.refusal.Refusal.TheVariants.{ListLength}
use Rattle.pattern.specs.Laws.Accepting.{input-accepted}
use Rattle.basics.specs.Collections.{Every}
use Rattle.matching.specs.Occurrence.{View, plain}
use Rattle.matching.specs.Lists.{leftmost, leftmost_in, rightmost}
use Rattle.basics.specs.Written.{flat, written}
use Rattle.matching.specs.Answers.{listed, filled}
use Rattle.matching.specs.Largest.{Largest}
use Rattle.matching.specs.Steps.Settling.{Ready}
use Rattle.matching.specs.Steps.Turning.{viewed, flip}
use Rattle.matching.specs.Steps.Listing.{Faces, shown_rows, stored}
use Rattle.matching.specs.Steps.Sides.{sight}
use Rattle.matching.specs.declared.side.Side.{Side}
use Rattle.basics.specs.Laws.Collections.{every_map}
use Rattle.basics.specs.Laws.Written.{length-flat}
use Rattle.matching.proofs.Laws.Direction.{forwards}
use Rattle.matching.proofs.Laws.Bounding.{greedy_hits}
use Rattle.matching.proofs.Laws.Extremes.{leftmost-front, back_unique}
use Rattle.matching.proofs.Laws.Largest.{largest}
use Rattle.matching.proofs.Laws.Lengths.{leftmost-length}
use Rattle.matching.proofs.Laws.Mirror.{front_back_list}
use Rattle.matching.proofs.Laws.Turning.{turned_facing, turned-ready}
use Rattle.matching.proofs.Reversing.{flat_reversed}
use Rattle.pattern.specs.Tests.{Verdict, input_verdict}

-- ---- the rows turned round

sizes : (g : Pattern) (u : View) → 1 ≤ g.count → Every (λ r. length r ≡ g.count) (leftmost_in g u)
sizes g u some = every_map (λ r o. o.size) (greedy_hits (forwards g.count) (leftmost-front g u some))

turned-written : (g : Pattern) (u : View) → 1 ≤ g.count → (n rows : ℕ) (l₀ : List ℕ) {l l' : List ℕ} → rows ≡ length (leftmost_in g u) → l ≡ written g.count (leftmost_in g u) l₀
    → l' ≡ flip n (take (rows * g.count) l) ++ drop (rows * g.count) l → l' ≡ written g.count (reverse (map (flip n) (leftmost_in g u))) l₀
turned-written g u some n rows l₀ {l} {l'} r q e =
    let m = g.count in
    let F = leftmost_in g u in
    let D = drop (length F * m) l₀ in
    let s : length (flat F) ≡ rows * m = length-flat m (sizes g u some) ∙ ap (λ (x : ℕ). x * m) (sym r) in
    let a : take (rows * m) l ≡ flat F = ap (take (rows * m)) q ∙ take_at (flat F) D (rows * m) s in
    let b : drop (rows * m) l ≡ D = ap (drop (rows * m)) q ∙ drop_at (flat F) D (rows * m) s in
    let k : length F ≡ length (reverse (map (flip n) F)) = sym (length-reverse (map (flip n) F) ∙ length-map F (flip n)) in
    e ∙ ap (λ (x : List ℕ). flip n x ++ drop (rows * m) l) a
    ∙ ap (λ (x : List ℕ). flip n (flat F) ++ x) b
    ∙ ap (λ (x : List ℕ). x ++ D) (flat_reversed n F)
    ∙ ap (λ (x : ℕ). flat (reverse (map (flip n) F)) ++ drop (x * m) l₀) k

shown_back : (b : Bool) → b ≡ true → (n : ℕ) (R : List (List ℕ)) → shown_rows b n R ≡ reverse (map (flip n) R)
shown_back b e n R = rw e

-- the rows that were found, so many, stand in the list l₁, and turned round in l₂
pub stored_back : (s : Side) (l : List ℕ) {rows : ℕ} → rows ≡ length (leftmost_in s.pattern.now (sight s))
    → {l₁ : List ℕ} → l₁ ≡ written s.pattern.now.count (leftmost_in s.pattern.now (sight s)) l → s.mirrored ≡ true
    → {l₂ : List ℕ} → l₂ ≡ flip (length s.text.now) (take (rows * s.pattern.now.count) l₁) ++ drop (rows * s.pattern.now.count) l₁
    → l₂ ≡ written s.pattern.now.count (shown_rows s.mirrored (length s.text.now) (leftmost_in s.pattern.now (sight s))) l
stored_back s l {rows} N W e T =
    let g = s.pattern.now in
    let F = leftmost_in g (sight s) in
    turned-written g (sight s) s.ready.some (length s.text.now) rows l N W T ∙ ap (λ (x : List (List ℕ)). written g.count x l) (sym (shown_back s.mirrored e (length s.text.now) F))

-- ---- the pattern as it is searched

pub faces_ready : {f g : Pattern} {n : ℕ} → Ready f n → (b : Bool) → Faces b f g → Ready g n
faces_ready ok true F = turned-ready (F.back refl) ok
faces_ready ok false F = rw (F.on refl) ok

module _ {b : Bool} {f g : Pattern} (t : List ℕ) (F : Faces b f g) (l : List ℕ) where
  -- a list with an entry for each word and slot has room for every row
  pub room_always : length t * f.count ≤ length l → length (leftmost_in g (viewed b g t)) * g.count ≤ length l
  room_always h =
      let rows = length (leftmost_in g (viewed b g t)) in
      let k = mul-le-mul_right {m = rows} {n = length t} f.count (omega (arith, leftmost-length g (viewed b g t))) in
      omega (arith, ap (λ (x : ℕ). rows * x) F.count)

  pub room_counted : {rows : ℕ} → rows ≡ length (leftmost_in g (viewed b g t)) → rows * f.count ≤ length l
      → length (leftmost_in g (viewed b g t)) * g.count ≤ length l
  room_counted {rows} e h =
      omega (arith, ap (λ (x : ℕ). x * f.count) e, ap (λ (x : ℕ). length (leftmost_in g (viewed b g t)) * x) F.count)

-- ---- what was found is the front list or the back list

module _ {f g : Pattern} (t : List ℕ) (ok : Ready f (length t)) where
  faces_list : (b : Bool) → Faces b f g → shown_rows b (length t) (leftmost_in g (viewed b g t)) ≡ stored b f t
  faces_list true F =
      let T = F.back refl in
      back_unique f (plain f t) ok.some (front_back_list (turned_facing T t) ok.some ok.short (leftmost-front g (viewed true g t) (omega (arith, T.count, ok.some))))
  faces_list false F = ap (λ (x : Pattern). leftmost x t) (F.on refl)

length-shown : (b : Bool) (n : ℕ) (R : List (List ℕ)) → length (shown_rows b n R) ≡ length R
length-shown true n R = length-reverse (map (flip n) R) ∙ length-map R (flip n)
length-shown false n R = refl

-- ---- the answer and the content, once the tests are passed

module _ (b : Bool) {f g : Pattern} (t l : List ℕ) (ok : Ready f (length t)) (F : Faces b f g) where
  abbrev N : ℕ
  N = length (stored b f t)

  abbrev found : ℕ
  found = length (leftmost_in g (viewed b g t))

  found_is : found ≡ N
  found_is = sym (length-shown b (length t) (leftmost_in g (viewed b g t))) ∙ ap length (faces_list t ok b F)

  product : {rows : ℕ} → rows ≡ found → rows * f.count ≡ N * f.count
  product e = ap (λ (x : ℕ). x * f.count) (e ∙ found_is)

  listed_short : {rows : ℕ} → rows ≡ found → length l < rows * f.count → Err (ListLength rows) ≡ listed (Ok tt) f.count (stored b f t) (length l)
  listed_short {rows} e k = rw (lt-ltb (length l) (N * f.count) (omega (arith, product e)), e ∙ found_is)

  filled_short : {rows : ℕ} → rows ≡ found → length l < rows * f.count → l ≡ filled (Ok tt) f.count (stored b f t) l
  filled_short e k = rw (lt-ltb (length l) (N * f.count) (omega (arith, product e)))

  module _ (room : found * g.count ≤ length l) where
    fits : N * f.count ≤ length l
    fits = omega (arith, product {rows = found} refl, ap (λ (x : ℕ). found * x) F.count)

    listed_done : Ok found ≡ listed (Ok tt) f.count (stored b f t) (length l)
    listed_done = rw (le-ltb (length l) (N * f.count) fits, found_is)

    filled_done : {l' : List ℕ} → l' ≡ written g.count (shown_rows b (length t) (leftmost_in g (viewed b g t))) l → l' ≡ filled (Ok tt) f.count (stored b f t) l
    filled_done q =
        rw (le-ltb (length l) (N * f.count) fits)
        (q ∙ ap (λ (x : ℕ). written x (shown_rows b (length t) (leftmost_in g (viewed b g t))) l) F.count ∙ ap (λ (R : List (List ℕ)). written f.count R l) (faces_list t ok b F))

  module _ {v : Verdict} (accepted : v ≡ Ok tt) where
    pub none_stored : {rows : ℕ} → rows ≡ found → length l < rows * f.count
        → (Err (ListLength rows) ≡ listed v f.count (stored b f t) (length l)) × (l ≡ filled v f.count (stored b f t) l)
    none_stored e k = rw accepted (listed_short e k, filled_short e k)

    pub all_stored : length (leftmost_in g (viewed b g t)) * g.count ≤ length l → {rows : ℕ} {l' : List ℕ} → rows ≡ found → l' ≡ written g.count (shown_rows b (length t) (leftmost_in g (viewed b g t))) l
        → (Ok rows ≡ listed v f.count (stored b f t) (length l)) × (l' ≡ filled v f.count (stored b f t) l)
    all_stored R e q = rw accepted (rw e (listed_done R), filled_done R q)

-- ---- demand 3

pub best : (f : Pattern) (t : List ℕ) → input_verdict f (length t) ≡ Ok tt → Largest f t (leftmost f t) (rightmost f t)
best f t e = largest ((input-accepted f (length t)).0 e)
