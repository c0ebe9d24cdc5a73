-- A pattern's file piece by piece, as it is measured and written: the digits of a number, the words of a slot, the lines of the slots.
-- Assumes nothing.
use Rattle.std.specs.Prelude.{ℕ, zero, suc, ◌+◌, ◌/◌, ◌≤◌, ◌<◌, min, ◌≡◌, refl, List, [], ◌∷◌, ◌++◌, map, length, get_or, take}
use Rattle.std.proofs.Common.{arith, add-one, sym, ◌∙◌, ap, append_assoc, length-append, length-take, take-suc, get_or-take, take_all, lt-ltb, le-ltb, ne_eqb}
use Rattle.std.proofs.lemmas.List.{map-append}
use Rattle.basics.specs.Digits.{digits_in}
use Rattle.basics.specs.Laws.Digits.{digits-wide}
use Rattle.pattern.specs.declared.slot.Slot.{Slot}
use Rattle.pattern.specs.declared.Pattern.{Pattern}
use Rattle.pattern.specs.Patterns.{no_slot, stated}
use Rattle.format.specs.Shown.{digits, closed, joined, mark_text, slot_text, paper_order}
use Rattle.format.specs.Patterns.{SlotLine}
use Rattle.format.specs.Names.{least_name, most_name, low_name, high_name, words_name}
use Rattle.printing.specs.Printed.{line_of, lines_of, pattern_text}
use Rattle.printing.specs.Steps.Printing.{word_text}
use Rattle.format.specs.Laws.Lines.{closed-append}

-- ---- the digits of a number

one : (f n : ℕ) → n < 10 → length (digits_in f n) ≡ 1
unfolding digits_in
one zero n h = refl
one (suc f) n h = rw (lt-ltb n 10 h)

one_more : (f n k : ℕ) → 10 ≤ n → length (digits_in f (n / 10)) ≡ k → length (digits_in (suc f) n) ≡ k + 1
unfolding digits_in
one_more f n k h e = rw (le-ltb n 10 h) (simp length-append (omega (arith, e)))

pub digits_one : (n : ℕ) → n < 10 → length (digits n) ≡ 1
unfolding digits
digits_one n h = one 4 n h

pub digits_two : (n : ℕ) → 10 ≤ n → n < 100 → length (digits n) ≡ 2
unfolding digits
digits_two n l h = one_more 3 n 1 l (one 3 (n / 10) (omega arith))

pub digits_three : (n : ℕ) → 100 ≤ n → n < 1000 → length (digits n) ≡ 3
unfolding digits
digits_three n l h = one_more 3 n 2 (omega arith) (one_more 2 (n / 10) 1 (omega arith) (one 2 (n / 10 / 10) (omega arith)))

pub digits_four : (n : ℕ) → 1000 ≤ n → n < 10000 → length (digits n) ≡ 4
unfolding digits
digits_four n l h = one_more 3 n 3 (omega arith) (one_more 2 (n / 10) 2 (omega arith) (one_more 1 (n / 10 / 10) 1 (omega arith) (one 1 (n / 10 / 10 / 10) (omega arith))))

pub digits_five : (n : ℕ) → 10000 ≤ n → n ≤ 65535 → length (digits n) ≡ 5
unfolding digits
digits_five n l h = one_more 3 n 4 (omega arith) (one_more 2 (n / 10) 3 (omega arith) (one_more 1 (n / 10 / 10) 2 (omega arith) (one_more 0 (n / 10 / 10 / 10) 1 (omega arith) (one 0 (n / 10 / 10 / 10 / 10) (omega arith)))))

-- as the writer of numbers writes them
pub digits-written : (n : ℕ) → n ≤ 65535 → digits_in 19 n ≡ digits n
unfolding digits
digits-written n h = sym (digits-wide 15 4 n (omega arith))

-- ---- the words of a slot

joined_last : (p : List ℕ) (ps : List (List ℕ)) (q : List ℕ) (sep : ℕ) → joined ((p ∷ ps) ++ (q ∷ [])) sep ≡ joined (p ∷ ps) sep ++ (sep ∷ q)
unfolding joined
joined_last p [] q sep = refl
joined_last p (r ∷ ps) q sep = ap (λ (l : List ℕ). p ++ (sep ∷ l)) (joined_last r ps q sep) ∙ sym (append_assoc p (sep ∷ joined (r ∷ ps) sep) (sep ∷ q))

pub words_more : (ws : List ℕ) (i : ℕ) → i < length ws → joined (map digits (take (i + 1) ws)) 44 ≡ joined (map digits (take i ws)) 44 ++ word_text i (get_or ws i 0)
unfolding joined
words_more [] i h = absurd (omega arith)
words_more (w ∷ ws) zero h = refl
words_more (w ∷ ws) (suc i) h =
    let more : take (suc i + 1) (w ∷ ws) ≡ (w ∷ take i ws) ++ (get_or ws i 0 ∷ []) = ap (λ (n : ℕ). take n (w ∷ ws)) (add-one (suc i)) ∙ take-suc (w ∷ ws) (suc i) 0 h in
    rw (ne_eqb (suc i) 0 (λ e. omega arith))
    (ap (λ (l : List ℕ). joined (map digits l) 44) more
    ∙ ap (λ (l : List (List ℕ)). joined l 44) (map-append digits (w ∷ take i ws) (get_or ws i 0 ∷ []))
    ∙ joined_last (digits w) (map digits (take i ws)) (digits (get_or ws i 0)) 44)

-- of the first `count` of some words
pub stated_more : (ws : List ℕ) (count i : ℕ) → i < min count (length ws)
    → joined (map digits (take (i + 1) (take count ws))) 44 ≡ joined (map digits (take i (take count ws))) 44 ++ word_text i (get_or ws i 0)
stated_more ws count i h =
    words_more (take count ws) i (simp length-take (omega arith)) ∙ ap (λ (w : ℕ). joined (map digits (take i (take count ws))) 44 ++ word_text i w) (get_or-take count ws i 0 (omega arith))

pub stated_all : (ws : List ℕ) (count i : ℕ) → i ≡ min count (length ws) → take i (take count ws) ≡ take count ws
stated_all ws count i e = take_all i (take count ws) (simp length-take (omega arith))

-- ---- the lines of the slots

pub slot-line : (s : Slot) → closed (slot_text paper_order (line_of s) ∷ []) ≡ (digits s.low ++ (32 ∷ [])) ++ (digits s.high ++ (32 ∷ [])) ++ mark_text s.excluding ++ joined (map digits (stated s)) 44 ++ (10 ∷ [])
unfolding closed slot_text joined
slot-line s = simp append_assoc

pub lines_more : (ss : List Slot) (j : ℕ) → j < length ss
    → closed (map (slot_text paper_order) (map line_of (take (j + 1) ss))) ≡ closed (map (slot_text paper_order) (map line_of (take j ss))) ++ closed (slot_text paper_order (line_of (get_or ss j no_slot)) ∷ [])
lines_more ss j h =
    let more : take (j + 1) ss ≡ take j ss ++ (get_or ss j no_slot ∷ []) = ap (λ (n : ℕ). take n ss) (add-one j) ∙ take-suc ss j no_slot h in
    ap (λ (l : List Slot). closed (map (slot_text paper_order) (map line_of l))) more
    ∙ ap (λ (l : List SlotLine). closed (map (slot_text paper_order) l)) (map-append line_of (take j ss) (get_or ss j no_slot ∷ []))
    ∙ ap closed (map-append (slot_text paper_order) (map line_of (take j ss)) (line_of (get_or ss j no_slot) ∷ []))
    ∙ closed-append (map (slot_text paper_order) (map line_of (take j ss))) (slot_text paper_order (line_of (get_or ss j no_slot)) ∷ [])

-- ---- their sizes

pub no_words : (ws : List ℕ) → joined (map digits (take 0 ws)) 44 ≡ []
unfolding joined
no_words ws = refl

pub words_sized : (ws : List ℕ) (count i size r : ℕ) → i < min count (length ws) → size ≡ length (joined (map digits (take i (take count ws))) 44) → r ≡ length (word_text i (get_or ws i 0))
    → size + r ≡ length (joined (map digits (take (i + 1) (take count ws))) 44)
words_sized ws count i size r h e f =
    omega (arith, e, f, ap (λ (l : List ℕ). length l) (stated_more ws count i h), length-append (joined (map digits (take i (take count ws))) 44) (word_text i (get_or ws i 0)))

pub no_lines : (ss : List Slot) → closed (map (slot_text paper_order) (map line_of (take 0 ss))) ≡ []
unfolding closed
no_lines ss = refl

pub slot-length : (s : Slot)
    → length (closed (slot_text paper_order (line_of s) ∷ [])) ≡ length (digits s.low) + length (digits s.high) + length (mark_text s.excluding) + length (joined (map digits (stated s)) 44) + 3
slot-length s = ap (λ (l : List ℕ). length l) (slot-line s) ∙ simp length-append (omega arith)

pub lines_sized : (ss : List Slot) (j size r : ℕ) → j < length ss → size ≡ length (closed (map (slot_text paper_order) (map line_of (take j ss)))) → r ≡ length (closed (slot_text paper_order (line_of (get_or ss j no_slot)) ∷ []))
    → size + r ≡ length (closed (map (slot_text paper_order) (map line_of (take (j + 1) ss))))
lines_sized ss j size r h e f =
    omega (
      arith,
      e,
      f,
      ap (λ (l : List ℕ). length l) (lines_more ss j h),
      length-append (closed (map (slot_text paper_order) (map line_of (take j ss)))) (closed (slot_text paper_order (line_of (get_or ss j no_slot)) ∷ [])),
    )

-- ---- the whole file

pub file-parts : (f : Pattern) → pattern_text f
    ≡ (joined (least_name ∷ most_name ∷ []) 32 ++ (10 ∷ [])) ++ (digits f.least ++ (32 ∷ [])) ++ (digits f.most ++ (10 ∷ [])) ++ (joined (low_name ∷ high_name ∷ words_name ∷ []) 32 ++ (10 ∷ []))
    ++ closed (map (slot_text paper_order) (lines_of f))
unfolding pattern_text closed joined
file-parts f = simp append_assoc

pub file-length : (f : Pattern) → length (pattern_text f) ≡ 26 + length (digits f.least) + length (digits f.most) + 2 + length (closed (map (slot_text paper_order) (lines_of f)))
unfolding joined
file-length f = ap (λ (l : List ℕ). length l) (file-parts f) ∙ simp length-append (omega arith)
