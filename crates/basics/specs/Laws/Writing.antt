-- Writers one after the other. Assumes nothing.
use Rattle.std.specs.Prelude.{ℕ, zero, suc, ◌+◌, ◌≤◌, ◌<◌, min, ◌≡◌, refl, List, [], ◌∷◌, ◌++◌, length, get_or, take, drop, set}
use Rattle.std.proofs.Common.{arith, add-one, sym, ap, ◌∙◌, append-nil, length-append, length-take, length-drop, take-append-drop, drop_of_length-le, take_all, take-suc}
use Rattle.std.proofs.Math.Seq.{take-nil, drop-nil}
use Rattle.basics.specs.Writing.{overlaid, put_at, next_at, Writes}

-- ---- bytes over a list

-- the list keeps its length
pub length-overlaid : (bytes out : List ℕ) → length (overlaid bytes out) ≡ length out
length-overlaid bytes out = simp (length-append, length-take, length-drop) (omega arith)

-- the list keeps its length
pub length-put_at : (bytes : List ℕ) (at : ℕ) (out : List ℕ) → length (put_at bytes at out) ≡ length out
length-put_at bytes at out = simp (length-append, length-take, length-drop) (omega arith)

-- all of them fit
pub overlaid_short : (bytes out : List ℕ) → length bytes ≤ length out → overlaid bytes out ≡ bytes ++ drop (length bytes) out
overlaid_short bytes out h = rw (take_all (length out) bytes h)

-- no bytes
overlaid_none : (out : List ℕ) → overlaid [] out ≡ out
overlaid_none out = rw (take-nil {A = ℕ} (length out))

-- no bytes
put_at_none : (at : ℕ) (out : List ℕ) → put_at [] at out ≡ out
put_at_none at out = ap (λ (l : List ℕ). take at out ++ l) (overlaid_none (drop at out)) ∙ take-append-drop at out

-- one byte
pub put_at_byte : (byte at : ℕ) (out : List ℕ) → at < length out → put_at (byte ∷ []) at out ≡ set out at byte
put_at_byte byte zero [] h = absurd (omega arith)
put_at_byte byte zero (x ∷ out) h = ap (λ (l : List ℕ). byte ∷ l) (overlaid_none out)
put_at_byte byte (suc at) [] h = absurd (omega arith)
put_at_byte byte (suc at) (x ∷ out) h = ap (λ (l : List ℕ). x ∷ l) (put_at_byte byte at out (omega arith))

-- no room
pub put_at_full : (bytes : List ℕ) (at : ℕ) (out : List ℕ) → length out ≤ at → put_at bytes at out ≡ out
put_at_full bytes at out h =
    ap (λ (l : List ℕ). take at out ++ overlaid bytes l) (drop_of_length-le out h)
    ∙ ap (λ (l : List ℕ). take at out ++ l) (drop-nil {A = ℕ} (length bytes))
    ∙ append-nil (take at out)
    ∙ take_all at out h

-- some bytes over the start, and then others
overlaid-append : (a b out : List ℕ) (n : ℕ) → n ≡ min (length a) (length out) → overlaid (a ++ b) out ≡ put_at b n (overlaid a out)
overlaid-append [] b out n e =
    let none : 0 ≡ n = omega arith in
    ap (λ (l : List ℕ). overlaid b l) (sym (overlaid_none out)) ∙ ap (λ (k : ℕ). put_at b k (overlaid [] out)) none
overlaid-append (y ∷ a) b [] n e = sym (put_at_full b n [] (omega arith))
overlaid-append (y ∷ a) b (x ∷ out) n e =
    let more : suc (min (length a) (length out)) ≡ n = omega arith in
    ap (λ (l : List ℕ). y ∷ l) (overlaid-append a b out _ refl) ∙ ap (λ (k : ℕ). put_at b k (y ∷ overlaid a out)) more

-- some bytes, and then others after them
pub put_at-append : (a b : List ℕ) (at n : ℕ) (out : List ℕ) → n ≡ next_at a at out → put_at (a ++ b) at out ≡ put_at b n (put_at a at out)
put_at-append a b zero n out e = overlaid-append a b out n (omega arith)
put_at-append a b (suc at) n [] e =
    put_at_full (a ++ b) (suc at) [] (omega arith)
    ∙ sym (put_at_full b n [] (omega arith))
    ∙ ap (λ (l : List ℕ). put_at b n l) (sym (put_at_full a (suc at) [] (omega arith)))
put_at-append a b (suc at) n (x ∷ out) e =
    let more : suc (next_at a at out) ≡ n = omega arith in
    ap (λ (l : List ℕ). x ∷ l) (put_at-append a b at _ out refl) ∙ ap (λ (k : ℕ). put_at b k (x ∷ put_at a at out)) more

-- and where they end
pub next_at-append : (a b : List ℕ) (at n : ℕ) (out : List ℕ) → n ≡ next_at a at out → next_at (a ++ b) at out ≡ next_at b n (put_at a at out)
next_at-append a b at n out e = omega (arith, length-append a b, length-put_at a at out)

-- ---- writers

-- what a writer promises
pub writes_of : {bytes before after : List ℕ} {at next : ℕ} → (next ≡ next_at bytes at before) × (after ≡ put_at bytes at before) → Writes bytes before at after next
writes_of e = record { end = e.0; contents = e.1 }

-- nothing is written
pub writes_none : {out : List ℕ} {at : ℕ} → Writes [] out at out at
writes_none {out} {at} = record { end = omega arith; contents = sym (put_at_none at out) }

-- one writer after another
pub writes_then : {xs ys a b c : List ℕ} {i j k : ℕ} → Writes xs a i b j → Writes ys b j c k → Writes (xs ++ ys) a i c k
writes_then {xs} {ys} {a} {i = i} {j = j} v w =
    record {
      end = w.end ∙ ap (λ (l : List ℕ). next_at ys j l) v.contents ∙ sym (next_at-append xs ys i j a v.end);
      contents = w.contents ∙ ap (λ (l : List ℕ). put_at ys j l) v.contents ∙ sym (put_at-append xs ys i j a v.end);
    }

-- the same bytes
pub writes_same : {xs ys a b : List ℕ} {i j : ℕ} → xs ≡ ys → Writes xs a i b j → Writes ys a i b j
writes_same e w = rw e at w

-- from the start on
pub writes_all : {bytes out after : List ℕ} {end : ℕ} → Writes bytes out 0 after end → (end ≡ min (length bytes) (length out)) × (after ≡ overlaid bytes out)
writes_all w = (omega (arith, w.end), w.contents)

-- ---- byte by byte

-- one byte more of some
pub writes_next : (bytes : List ℕ) (n : ℕ) {a b c : List ℕ} {i j k : ℕ} → n < length bytes → Writes (take n bytes) a i b j → Writes (get_or bytes n 0 ∷ []) b j c k → Writes (take (n + 1) bytes) a i c k
writes_next bytes n h v w = writes_same (sym (take-suc bytes n 0 h) ∙ ap (λ (m : ℕ). take m bytes) (sym (add-one n))) (writes_then v w)

-- all of them
pub writes_whole : (bytes : List ℕ) (n : ℕ) {a b : List ℕ} {i j : ℕ} → length bytes ≤ n → Writes (take n bytes) a i b j → Writes bytes a i b j
writes_whole bytes n h w = writes_same (take_all n bytes h) w

-- what was written lies within the list
pub writes_within : (bytes out : List ℕ) {after : List ℕ} {end : ℕ} → (end ≡ min (length bytes) (length out)) × (after ≡ overlaid bytes out) → end ≤ length after
writes_within bytes out {after} {end} w = let size : length after ≡ length out = ap length w.1 ∙ length-overlaid bytes out in omega (arith, w.0)
