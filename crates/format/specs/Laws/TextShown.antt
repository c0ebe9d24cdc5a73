-- A text file holds words exactly if it shows them. Assumes nothing.
use Rattle.std.specs.Prelude.{ℕ, Bool, true, false, List, [], ◌∷◌, map, ◌↔◌, ◌≡◌, refl, Err, Ok}
use Rattle.std.proofs.Common.{arith, sym, ◌∙◌, ap, subst, le-leb, leb-true}
use Rattle.basics.specs.Choice.{pick}
use Rattle.pattern.specs.declared.refusal.Refusal.{Refusal}
use Rattle.pattern.specs.declared.refusal.Refusal.TheVariants.{Names}
use Rattle.format.specs.Bytes.{decimal, ended, is_number, lines, same}
use Rattle.format.specs.Layouts.{Layout, scan}
use Rattle.format.specs.Names.{word_name}
use Rattle.format.specs.Texts.{after_name, of_lines, refused, text_contents, words}
use Rattle.format.specs.Shown.{Small, TextShows, also, closed, digits, empty, headed, none}
use Rattle.format.specs.Laws.Fields.{same_eq}
use Rattle.format.specs.Laws.Lines.{AllRight, all_digits, closed_read, ended-closed, lines-closed, no_line, right_line, scan_all, scan_right}
use Rattle.format.specs.Laws.Numbers.{decimal-digits, digits_decimal}

-- lines of numbers
numbers_right : {ws : List ℕ} → Small ws → AllRight is_number (map digits ws)
numbers_right none = no_line
numbers_right (also {n = n} h r) = right_line {l = digits n} (rw (decimal-digits n h) (le-leb n 65535 h)) (numbers_right r)

numbers_read : {ws : List ℕ} → Small ws → map decimal (map digits ws) ≡ ws
numbers_read none = refl
numbers_read (also {n = n} {ns = ns} h r) = rw (decimal-digits n h) (ap (λ (k : List ℕ). n ∷ k) (numbers_read r))

numbers_small : {ls : List (List ℕ)} → AllRight is_number ls → Small (map decimal ls)
numbers_small no_line = none
numbers_small (right_line {l = l} h r) = also (leb-true (decimal l) 65535 h) (numbers_small r)

numbers-shown : {ls : List (List ℕ)} → AllRight is_number ls → ls ≡ map digits (map decimal ls)
numbers-shown no_line = refl
numbers-shown (right_line {l = l} {ls = ls} h r) =
    ap (λ (k : List ℕ). k ∷ ls) (digits_decimal l (decimal l) refl (leb-true (decimal l) 65535 h)) ∙ ap (λ (k : List (List ℕ)). digits (decimal l) ∷ k) (numbers-shown r)

-- ---- what is shown is read

shows-text : {s ws : List ℕ} → TextShows s ws → text_contents s ≡ words ws
unfolding text_contents closed same lines ended
shows-text empty = refl
shows-text (headed ws h) = rw (lines-closed (all_digits 10 (omega arith) ws), ended-closed (map digits ws)) (rw (scan_right (map digits ws) is_number 0 (numbers_right h)) (ap words (numbers_read h)))

-- ---- what is read is shown

refused_words : (a : Refusal) (ws : List ℕ) → refused a ≡ words ws → ⊥
refused_words a ws e = let z : ◌≡◌ {A = ℕ} 0 1 = cc in omega arith

words-words : {vs ws : List ℕ} → words vs ≡ words ws → vs ≡ ws
words-words e = cc

module _ (s ws : List ℕ) (l : List ℕ) (ls : List (List ℕ)) (el : lines s ≡ l ∷ ls) where
  with_lines : l ≡ word_name → AllRight is_number ls → ended s 10 ≡ true → map decimal ls ≡ ws → TextShows s ws
  with_lines n r c w =
      let shape : closed (word_name ∷ map digits ws) ≡ s =
      ap (λ (k : List ℕ). closed (word_name ∷ map digits k)) (sym w) ∙ ap (λ (k : List (List ℕ)). closed (word_name ∷ k)) (sym (numbers-shown r))
      ∙ ap (λ (k : List ℕ). closed (k ∷ ls)) (sym n) ∙ ap closed (sym el) ∙ closed_read s 10 c in
      subst (λ (k : List ℕ). TextShows k ws) shape (headed ws (subst Small w (numbers_small r)))

  with_layout : l ≡ word_name → (y : Layout) → scan ls is_number (ended s 10) 0 ≡ y → after_name y ls ≡ words ws → TextShows s ws
  with_layout n (Err k) q e = absurd (refused_words _ ws e)
  with_layout n (Ok k) q e = let r = scan_all ls is_number (ended s 10) 0 k q in with_lines n r.0 r.1 (words-words e)

  with_name : (x : Bool) → same l word_name ≡ x → pick x (after_name (scan ls is_number (ended s 10) 0) ls) (refused (Names 1)) ≡ words ws → TextShows s ws
  with_name true q e = with_layout (same_eq l word_name q) (scan ls is_number (ended s 10) 0) refl e
  with_name false q e = absurd (refused_words _ ws e)

with_any : (s ws : List ℕ) (ls : List (List ℕ)) → lines s ≡ ls → of_lines ls (ended s 10) ≡ words ws → TextShows s ws
with_any s ws [] el e = absurd (refused_words _ ws e)
with_any s ws (l ∷ ls) el e = with_name s ws l ls el (same l word_name) refl e

text-shows : (s ws : List ℕ) → text_contents s ≡ words ws → TextShows s ws
unfolding text_contents
text-shows [] ws e = subst (λ (k : List ℕ). TextShows [] k) (words-words e) empty
text-shows (b ∷ s) ws e = with_any (b ∷ s) ws (lines (b ∷ s)) refl e

-- ---- both faces of a text file agree, and its words are unique

pub text-shown : (s ws : List ℕ) → (text_contents s ≡ words ws) ↔ TextShows s ws
text-shown s ws = (text-shows s ws, shows-text)

pub text_once : {s vs ws : List ℕ} → TextShows s vs → TextShows s ws → vs ≡ ws
text_once a b = words-words (sym (shows-text a) ∙ shows-text b)
