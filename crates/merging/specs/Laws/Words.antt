-- Which words a merged slot lists, and how many.
use Rattle.std.specs.Prelude.{ℕ, ◌≤◌, ◌≡◌, refl, ◌↔◌, Bool, true, false, ◌&&◌, ◌||◌, length, eqb}
use Rattle.std.proofs.Common.{arith, sym, ◌∙◌, eqb-true}
use Rattle.std.specs.Bool.{beq}
use Rattle.std.proofs.Math.Bool.{and-false}
use Rattle.std.proofs.lemmas.Bool.{false≢true}
use mathlib.Core.List.{List, [], ◌∷◌, ◌++◌, Memᴰ}
use Rattle.basics.specs.Collections.{keep, select}
use Rattle.basics.specs.Laws.Collections.{select-length, select_pairwise}
use Rattle.pattern.specs.Patterns.{member}
use Rattle.pattern.specs.Words.{Rising, sorted}
use Rattle.pattern.specs.Laws.Members.{member_true, mem-member, member-set}
use Rattle.pattern.specs.Laws.Words.{sorted-rising, sorted-mem}
use Rattle.merging.specs.Slots.{kept, words_by}

-- ---- the test of membership

-- a word for which the tests of two lists agree is in both or in neither
pub member_alike : (w : ℕ) (xs ys : List ℕ) → member w xs ≡ member w ys → Memᴰ w xs ↔ Memᴰ w ys
member_alike w xs ys e = (λ m. member_true w ys (sym e ∙ mem-member m), λ m. member_true w xs (e ∙ mem-member m))

-- a word is kept where it is listed, and among the others or not as asked
member_kept : (listed : Bool) (w : ℕ) (xs ys : List ℕ) → member w (kept listed xs ys) ≡ (member w xs && beq (member w ys) listed)
unfolding kept select keep member
member_kept listed w [] ys = refl
member_kept listed w (x ∷ xs) ys = go (beq (member x ys) listed) refl (eqb x w) refl (member_kept listed w xs ys)
  where
    go : (b : Bool) → beq (member x ys) listed ≡ b → (e : Bool) → eqb x w ≡ e → member w (kept listed xs ys) ≡ (member w xs && beq (member w ys) listed)
        → member w (keep b x (kept listed xs ys)) ≡ ((e || member w xs) && beq (member w ys) listed)
    go true q true e h = let same : x ≡ w = eqb-true x w e in rw (e, ← same, q)
    go true q false e h = rw e h
    go false q true e h = let same : x ≡ w = eqb-true x w e in h ∙ rw (← same, q) (and-false (member x xs))
    go false q false e h = h

member-append : (w : ℕ) (xs ys : List ℕ) → member w (xs ++ ys) ≡ (member w xs || member w ys)
unfolding member
member-append w [] ys = refl
member-append w (x ∷ xs) ys = go (eqb x w) (member-append w xs ys)
  where
    go : (e : Bool) → member w (xs ++ ys) ≡ (member w xs || member w ys) → (e || member w (xs ++ ys)) ≡ ((e || member w xs) || member w ys)
    go true h = refl
    go false h = h

-- whether the merged slot lists a word, by the marks and by whether each slot lists it
unfoldable pub listed_by : Bool → Bool → Bool → Bool → Bool
listed_by false false p q = p && beq q true
listed_by false true p q = p && beq q false
listed_by true false p q = q && beq p false
listed_by true true p q = p || q

pub member-merged : (a b : Bool) (w : ℕ) (xs ys : List ℕ) → member w (words_by a b xs ys) ≡ listed_by a b (member w xs) (member w ys)
unfolding listed_by
member-merged false false w xs ys = member_kept true w xs ys
member-merged false true w xs ys = member_kept false w xs ys
member-merged true false w xs ys = member_kept false w ys xs
member-merged true true w xs ys = member-set w (sorted (xs ++ ys)) (xs ++ ys) (sorted-mem w (xs ++ ys)) ∙ member-append w xs ys

-- ---- in order, and how many

kept_rising : (listed : Bool) {xs : List ℕ} (ys : List ℕ) → Rising xs → Rising (kept listed xs ys)
unfolding kept
kept_rising listed ys r = select_pairwise (λ x. beq (member x ys) listed) r

kept_length : (listed : Bool) (xs ys : List ℕ) → length (kept listed xs ys) ≤ length xs
unfolding kept
kept_length listed xs ys = select-length (λ x. beq (member x ys) listed) xs

pub merged-rising : (a b : Bool) {xs ys : List ℕ} → Rising xs → Rising ys → Rising (words_by a b xs ys)
merged-rising false false {xs} {ys} r q = kept_rising true ys r
merged-rising false true {xs} {ys} r q = kept_rising false ys r
merged-rising true false {xs} {ys} r q = kept_rising false xs q
merged-rising true true {xs} {ys} r q = sorted-rising (xs ++ ys)

-- of at most eight words in each slot, the merged slot has room for all, unless both are excluding and list more than eight between them
pub words_room : (a b : Bool) (xs ys : List ℕ) → length xs ≤ 8 → length ys ≤ 8 → (length (words_by a b xs ys) ≤ 8) ↔ (a ≡ true → b ≡ true → length (sorted (xs ++ ys)) ≤ 8)
words_room false false xs ys h k = (λ l d e. absurd (false≢true d), λ l. omega (arith, kept_length true xs ys))
words_room false true xs ys h k = (λ l d e. absurd (false≢true d), λ l. omega (arith, kept_length false xs ys))
words_room true false xs ys h k = (λ l d e. absurd (false≢true e), λ l. omega (arith, kept_length false ys xs))
words_room true true xs ys h k = (λ l d e. l, λ l. l refl refl)
