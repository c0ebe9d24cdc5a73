-- The field of a slot's words: what is printed is read again, and what was read is printed again. Assumes nothing.
use Rattle.std.specs.Prelude.{ℕ, ◌≤◌, ◌<◌, Bool, true, false, List, [], ◌∷◌, ◌++◌, map, ◌≡◌, refl, eqb, length}
use Rattle.std.proofs.Common.{arith, sym, ◌∙◌, ap, eqb-true, ne_eqb}
use Rattle.basics.specs.Choice.{pick}
use Rattle.format.specs.Bytes.{all_numbers, decimal, parts, same, value}
use Rattle.format.specs.Words.{bare, marked, unmarked, word_parts}
use Rattle.format.specs.Shown.{Small, also, digits, joined, none, words_text}
use Rattle.format.specs.Laws.Fields.{free_joined, joined-parts, parts-joined, parts_some, words-shown}
use Rattle.format.specs.Laws.Lines.{Free, all_digits, free_also, free_none}
use Rattle.format.specs.Laws.Numbers.{decimal-digits}

-- ---- the words of a field, by its mark

pub bare_parts : (s : List ℕ) → bare s ≡ true → word_parts s ≡ []
unfolding word_parts
bare_parts s e = rw e

pub listed-parts : (s : List ℕ) → bare s ≡ false → word_parts s ≡ parts (unmarked s) 44
unfolding word_parts
listed-parts s e = rw e

not_bare : (s : List ℕ) → marked s ≡ false → bare s ≡ false
unfolding same
not_bare [] e = refl
not_bare (b ∷ s) e = rw e

plain-parts : (s : List ℕ) → marked s ≡ false → word_parts s ≡ parts s 44
plain-parts s e = listed-parts s (not_bare s e) ∙ rw e

no_parts : word_parts (33 ∷ []) ≡ []
unfolding same
no_parts = bare_parts (33 ∷ []) refl

marked-parts : (t : List ℕ) → (t ≡ [] → ⊥) → word_parts (33 ∷ t) ≡ parts t 44
unfolding same
marked-parts [] h = absurd (h refl)
marked-parts (b ∷ t) h = listed-parts (33 ∷ b ∷ t) refl

-- ---- printing

not_comma : (sep : ℕ) → sep < 44 → 44 ≡ sep → ⊥
not_comma sep h e = omega arith

not_mark : (sep : ℕ) → sep < 33 → 33 ≡ sep → ⊥
not_mark sep h e = omega arith

free_numbers : (sep : ℕ) → sep < 44 → (ws : List ℕ) → Free sep (joined (map digits ws) 44)
free_numbers sep h ws = free_joined sep 44 (not_comma sep h) (map digits ws) (all_digits sep (omega arith) ws)

-- no byte below `!` among them: no space and no line feed
pub free_words : (sep : ℕ) → sep < 33 → (excluding : Bool) (ws : List ℕ) → Free sep (words_text excluding ws)
free_words sep h true ws = free_also (not_mark sep h) (free_numbers sep (omega arith) ws)
free_words sep h false ws = free_numbers sep (omega arith) ws

free_unmarked : {s : List ℕ} → Free 33 s → marked s ≡ false
free_unmarked free_none = refl
free_unmarked (free_also {b = b} h f) = ne_eqb b 33 h

digits_some : (n : ℕ) → n ≤ 65535 → digits n ≡ [] → ⊥
unfolding decimal
digits_some n h e = let d : 65536 ≡ n = ap decimal (sym e) ∙ decimal-digits n h in omega arith

joined_some : (p : List ℕ) (ps : List (List ℕ)) → (p ≡ [] → ⊥) → joined (p ∷ ps) 44 ≡ [] → ⊥
unfolding joined
joined_some p [] h e = h e
joined_some [] (q ∷ ps) h e = h refl
joined_some (b ∷ p) (q ∷ ps) h e = omega (arith, ap (λ (l : List ℕ). length l) e)

words-parts : (n : ℕ) (ns : List ℕ) → parts (joined (map digits (n ∷ ns)) 44) 44 ≡ map digits (n ∷ ns)
words-parts n ns = parts-joined 44 (digits n) (map digits ns) (all_digits 44 (omega arith) (n ∷ ns))

-- the field has the mark and, one by one, the words
pub record WordsPrinted (s : List ℕ) (excluding : Bool) (ws : List ℕ) : Type 0 where
  pub mark : marked s ≡ excluding
  pub words : word_parts s ≡ map digits ws

pub words-printed : (excluding : Bool) {ws : List ℕ} → Small ws → (excluding ≡ false → 0 < length ws) → WordsPrinted (words_text excluding ws) excluding ws
unfolding joined
words-printed true none some = record { mark = refl; words = no_parts }
words-printed true (also {n = n} {ns = ns} h r) some = record {
  mark = refl;
  words = marked-parts (joined (map digits (n ∷ ns)) 44) (joined_some (digits n) (map digits ns) (digits_some n h)) ∙ words-parts n ns;
}
words-printed false none some = absurd (omega (arith, some refl))
words-printed false (also {n = n} {ns = ns} h r) some =
    let plain = free_unmarked (free_numbers 33 (omega arith) (n ∷ ns)) in
    record { mark = plain; words = plain-parts (joined (map digits (n ∷ ns)) 44) plain ∙ words-parts n ns }

-- ---- reading

marked-joined : (t : List ℕ) → joined (word_parts (33 ∷ t)) 44 ≡ t
unfolding joined
marked-joined [] = ap (λ (ps : List (List ℕ)). joined ps 44) no_parts
marked-joined (b ∷ t) = ap (λ (ps : List (List ℕ)). joined ps 44) (marked-parts (b ∷ t) filled) ∙ joined-parts (b ∷ t) 44
  where
    filled : b ∷ t ≡ [] → ⊥
    filled e = omega (arith, ap (λ (l : List ℕ). length l) e)

-- a field is its words, joined, with its mark before them
field-joined : (s : List ℕ) → pick (marked s) (33 ∷ []) [] ++ joined (word_parts s) 44 ≡ s
field-joined [] = ap (λ (ps : List (List ℕ)). joined ps 44) (plain-parts [] refl) ∙ joined-parts [] 44
field-joined (b ∷ t) = go (eqb b 33) refl
  where
    go : (x : Bool) → eqb b 33 ≡ x → pick x (33 ∷ []) [] ++ joined (word_parts (b ∷ t)) 44 ≡ b ∷ t
    go true q = let e : b ≡ 33 = eqb-true b 33 q in rw e (ap (λ (l : List ℕ). 33 ∷ l) (marked-joined t))
    go false q = ap (λ (ps : List (List ℕ)). joined ps 44) (plain-parts (b ∷ t) q) ∙ joined-parts (b ∷ t) 44

some_words : (ps : List (List ℕ)) → (ps ≡ [] → ⊥) → 0 < length (map value ps)
some_words [] h = absurd (h refl)
some_words (p ∷ ps) h = omega arith

-- the field is the text of the words that were read
pub record WordsBack (s : List ℕ) (ws : List ℕ) : Type 0 where
  pub small : Small ws
  pub some : marked s ≡ false → 0 < length ws
  pub is : s ≡ words_text (marked s) ws

pub words_back : (s : List ℕ) → all_numbers (word_parts s) ≡ true → WordsBack s (map value (word_parts s))
words_back s h =
    let w = words-shown (word_parts s) h in
    record {
      small = w.1;
      some = λ e. some_words (word_parts s) (λ z. parts_some s 44 (sym (plain-parts s e) ∙ z));
      is = sym (field-joined s) ∙ ap (λ (ps : List (List ℕ)). pick (marked s) (33 ∷ []) [] ++ joined ps 44) w.0;
    }
