-- Entries past the stated number of slots or words are not looked at: patterns that state the same get the same verdicts, and their
-- slots state the same words.
use Rattle.std.specs.Prelude.{ℕ, zero, suc, ◌+◌, ◌≤◌, ◌<◌, ◌≡◌, refl, List, [], ◌∷◌, length, get_or, take}
use Rattle.std.proofs.Common.{arith, length-take}
use Rattle.pattern.specs.declared.slot.Slot.{Slot}
use Rattle.pattern.specs.declared.Pattern.{Pattern}
use Rattle.pattern.specs.Patterns.{stated}
use Rattle.pattern.specs.Tests.{Verdict, slot_verdict, order_verdict, slots_verdict, limits_verdict, pattern_verdict, input_verdict}
use Rattle.pattern.specs.Stated.{SameSlot, SameStated}

take_same : (n : ℕ) (l m : List ℕ) → length l ≡ length m → ((k : ℕ) → k < n → get_or l k 0 ≡ get_or m k 0) → take n l ≡ take n m
take_same zero l m e h = refl
take_same (suc n) [] [] e h = refl
take_same (suc n) [] (y ∷ m) e h = absurd (omega arith)
take_same (suc n) (x ∷ l) [] e h = absurd (omega arith)
take_same (suc n) (x ∷ l) (y ∷ m) e h =
    let first : x ≡ y = h zero (omega arith) in
    let rest : take n l ≡ take n m = take_same n l m (omega arith) (λ k b. h (suc k) (omega arith)) in
    rw (first, rest)

-- as many words as the stated number, up to the eight that there are
pub stated-count : (s : Slot) → length s.words ≡ 8 → s.count ≤ 8 → length (stated s) ≡ s.count
stated-count s eight few = simp length-take (omega arith)

-- the same words
pub stated_same : {s u : Slot} → SameSlot s u → stated s ≡ stated u
stated_same {s} {u} same = rw (← same.count) (take_same s.count s.words u.words same.long same.word)

slot_same : (s u : Slot) → SameSlot s u → (k : ℕ) → slot_verdict k s ≡ slot_verdict k u
unfolding slot_verdict
slot_same s u same k = rw (stated_same same, same.excluding, same.count, same.low, same.high)

order_same : (s u : Slot) → SameSlot s u → (k : ℕ) → order_verdict k s ≡ order_verdict k u
order_same s u same k = rw (stated_same same)

slots_same : (test : ℕ → Slot → Verdict) → ((s u : Slot) → SameSlot s u → (k : ℕ) → test k s ≡ test k u) → {f g : Pattern} → SameStated f g → (n j : ℕ) → j + n ≤ f.count
    → slots_verdict test f j n ≡ slots_verdict test g j n
unfolding slots_verdict
slots_same test alike same zero j h = refl
slots_same test alike same (suc n) j h = rw (alike _ _ (same.slot j (omega arith)) (j + 1), slots_same test alike same n (j + 1) (omega arith))

-- the same refusal, or none
pub verdict_same : {f g : Pattern} → SameStated f g → pattern_verdict f ≡ pattern_verdict g
unfolding pattern_verdict limits_verdict
verdict_same {f} {g} same =
    rw (slots_same slot_verdict slot_same same f.count 0 (omega arith), slots_same order_verdict order_same same f.count 0 (omega arith), same.count, same.least, same.most)

pub input_same : {f g : Pattern} → SameStated f g → (n : ℕ) → input_verdict f n ≡ input_verdict g n
unfolding input_verdict
input_same same n = rw (verdict_same same)
