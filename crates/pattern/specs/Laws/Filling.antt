-- The array of a pattern's sixteen slots, as a loop fills it, and what then stands in it.
use Rattle.std.specs.Prelude.{ℕ, ◌+◌, ◌-◌, ◌≤◌, ◌<◌, List, [], ◌∷◌, ◌++◌, ◌≡◌, refl, length, get_or, take, drop, set, replicate}
use Rattle.std.proofs.Common.{arith, append_assoc, sym, ◌∙◌, ap, length-append, length-set, length-take, get_or-take}
use Rattle.std.proofs.Math.ListN.{get_or-append}
use Rattle.std.proofs.lemmas.List.{set_at}
use Rattle.std.proofs.Math.Seq.{set_out, take-nil}
use Rattle.basics.specs.Laws.Arrays.{drop-replicate}
use Rattle.pattern.specs.declared.slot.Slot.{Slot}
use Rattle.pattern.specs.Patterns.{no_slot, empty_slot, first_slots}

-- the array, with the slots ss from its k-th entry on
unfoldable pub filled : List Slot → List Slot → ℕ → List Slot
filled slots [] k = slots
filled slots (s ∷ ss) k = filled (set slots k s) ss (k + 1)

pub filled_none : (slots ss : List Slot) (k : ℕ) → ss ≡ [] → filled slots ss k ≡ slots
unfolding filled
filled_none slots ss k e = rw e

pub filled_next : (slots ss qs : List Slot) (s : Slot) (k : ℕ) (x : Slot) → ss ≡ s ∷ qs → x ≡ s → filled slots ss k ≡ filled (set slots k x) qs (k + 1)
unfolding filled
filled_next slots ss qs s k x e is = rw (e, is)

pub filled_past : (ss slots : List Slot) (k : ℕ) → length slots ≤ k → filled slots ss k ≡ slots
unfolding filled
filled_past [] slots k h = refl
filled_past (s ∷ ss) slots k h = filled_past ss (set slots k s) (k + 1) (simp length-set (omega arith)) ∙ set_out slots k s h

filled-from : (ss pre post : List Slot) (n : ℕ) → length pre ≡ n → filled (pre ++ post) ss n ≡ pre ++ (take (length post) ss ++ drop (length ss) post)
unfolding filled
filled-from [] pre post n e = ap (λ (l : List Slot). pre ++ (l ++ post)) (sym (take-nil (length post)))
filled-from (s ∷ ss) pre [] n e = filled_past (s ∷ ss) (pre ++ []) n (omega (arith, length-append pre []))
filled-from (s ∷ ss) pre (p ∷ post) n e =
    ap (λ (l : List Slot). filled l ss (n + 1)) (set_at pre p post s n e ∙ sym (append_assoc pre (s ∷ []) post))
    ∙ filled-from ss (pre ++ (s ∷ [])) post (n + 1) (length-append pre (s ∷ []) ∙ omega arith)
    ∙ append_assoc pre (s ∷ []) (take (length post) ss ++ drop (length ss) post)

-- from the start of sixteen unused slots: the first sixteen of them
pub filled_first : (ss : List Slot) → filled (replicate 16 empty_slot) ss 0 ≡ first_slots ss
filled_first ss = filled-from ss [] (replicate 16 empty_slot) 0 refl ∙ ap (λ (l : List Slot). take 16 ss ++ l) (drop-replicate (length ss) 16 empty_slot)

-- each of them
pub first_at : (ss : List Slot) (j : ℕ) → j < length ss → j < 16 → get_or (first_slots ss) j no_slot ≡ get_or ss j no_slot
first_at ss j h few =
    let inside : j < length (take 16 ss) = simp length-take (omega arith) in
    get_or-append (take 16 ss) (replicate (16 - length ss) empty_slot) no_slot j inside ∙ get_or-take 16 ss j no_slot few
