-- A pattern file holds span limits and slots exactly if it shows them. Assumes nothing.
use Rattle.std.specs.Prelude.{ℕ, ◌≤◌, ◌<◌, Bool, true, false, List, [], ◌∷◌, map, ◌↔◌, ◌≡◌, refl, eqb, ltb, length, get_or, Err, Ok}
use Rattle.std.proofs.Common.{arith, sym, ◌∙◌, ap, subst, eqb-true, ltb-true}
use Rattle.std.proofs.lemmas.Bool.{false≢true}
use Rattle.basics.specs.Choice.{pick}
use Rattle.pattern.specs.declared.refusal.Refusal.{Refusal}
use Rattle.pattern.specs.declared.refusal.Refusal.TheVariants.{Names, Values}
use Rattle.format.specs.Bytes.{ended, field, fields, is_number, lines, parts, value}
use Rattle.format.specs.Layouts.{Layout, scan}
use Rattle.format.specs.Names.{column, columns_of, high_name, least_name, low_name, most_name, slot_names, span_names, words_name}
use Rattle.format.specs.Patterns.{SlotLine, from_names, from_slot_names, from_slots, from_values, pattern_contents, read_slot, refused, shown, slot_values, span_values}
use Rattle.format.specs.Shown.{Order2, Order3, PatternShows, SmallSlot, SmallSlots, also_slot, closed, digits, file_lines, joined, lm, ml, no_slots, showing, slot_text, three, two}
use Rattle.format.specs.declared.names.Columns.{Columns}
use Rattle.format.specs.Laws.Fields.{column_is, joined-parts, number_shown, number_small}
use Rattle.format.specs.Laws.Words.{words_back}
use Rattle.format.specs.Laws.Lines.{AllRight, closed_read, no_line, right_line, scan_all}
use Rattle.format.specs.Laws.Orders.{order_three, order_two, three_of, two_of}
use Rattle.format.specs.Laws.PatternPrinted.{shows-pattern}

-- what each test tells of a line
both : (x : Bool) {y : Bool} → pick x y false ≡ true → (x ≡ true) × (y ≡ true)
both true e = (refl, e)
both false e = absurd (false≢true e)

-- two names in one column are the same
apart : (fs : List (List ℕ)) (m n : List ℕ) → (m ≡ n → ⊥) → get_or fs (column fs m) [] ≡ m → get_or fs (column fs n) [] ≡ n → column fs m ≡ column fs n → ⊥
apart fs m n z a b e = z (sym a ∙ ap (λ (k : ℕ). get_or fs k []) e ∙ b)

record Names2 (l : List ℕ) (i j : ℕ) : Type 0 where
  order : Order2 i j
  is : l ≡ joined (two i least_name most_name) 32

names_two : (l : List ℕ) → span_names l ≡ true → Names2 l (column (fields l) least_name) (column (fields l) most_name)
names_two l e =
    let fs = parts l 32 in
    let p = both (eqb (length fs) 2) e in
    let q = both (ltb (column fs least_name) 2) p.1 in
    let len : length fs ≡ 2 = eqb-true (length fs) 2 p.0 in
    let hi : column fs least_name < 2 = ltb-true (column fs least_name) 2 q.0 in
    let hj : column fs most_name < 2 = ltb-true (column fs most_name) 2 q.1 in
    let a : get_or fs (column fs least_name) [] ≡ least_name = column_is fs least_name (omega arith) in
    let b : get_or fs (column fs most_name) [] ≡ most_name = column_is fs most_name (omega arith) in
    let o = order_two (column fs least_name) (column fs most_name) hi hj (apart fs least_name most_name unlike a b) in
    record { order = o; is = sym (joined-parts l 32) ∙ ap (λ (x : List (List ℕ)). joined x 32) (two_of o fs len ∙ ap (λ (x : List ℕ). two (column fs least_name) x (get_or fs (column fs most_name) [])) a ∙ ap (λ (x : List ℕ). two (column fs least_name) least_name x) b) }
  where
    unlike : least_name ≡ most_name → ⊥
    unlike e = omega (arith, ap (λ (x : List ℕ). length x) e)

record Values2 (l : List ℕ) (i j : ℕ) : Type 0 where
  first : value (field l i) ≤ 65535
  second : value (field l j) ≤ 65535
  is : l ≡ joined (two i (digits (value (field l i))) (digits (value (field l j)))) 32

values_two : {i j : ℕ} → Order2 i j → (l : List ℕ) → span_values l ≡ true → Values2 l i j
values_two {i} {j} o l e =
    let fs = parts l 32 in
    let p = both (eqb (length fs) 2) e in
    let q = both (is_number (get_or fs 0 [])) p.1 in
    let len : length fs ≡ 2 = eqb-true (length fs) 2 p.0 in
    let n = at_both o fs q.0 q.1 in
    record {
      first = number_small (get_or fs i []) n.0;
      second = number_small (get_or fs j []) n.1;
      is = sym (joined-parts l 32) ∙ ap (λ (x : List (List ℕ)). joined x 32) (two_of o fs len
          ∙ ap (λ (x : List ℕ). two i x (get_or fs j [])) (number_shown (get_or fs i []) n.0) ∙ ap (λ (x : List ℕ). two i (digits (value (get_or fs i []))) x) (number_shown (get_or fs j []) n.1));
    }
  where
    at_both : {x y : ℕ} → Order2 x y → (gs : List (List ℕ)) → is_number (get_or gs 0 []) ≡ true → is_number (get_or gs 1 []) ≡ true → (is_number (get_or gs x []) ≡ true) × (is_number (get_or gs y []) ≡ true)
    at_both lm gs u v = (u, v)
    at_both ml gs u v = (v, u)

record Names3 (l : List ℕ) (c : Columns) : Type 0 where
  order : Order3 c.low c.high c.words
  is : l ≡ joined (three c low_name high_name words_name) 32

names_three : (l : List ℕ) → slot_names l ≡ true → Names3 l (columns_of l)
names_three l e =
    let fs = parts l 32 in
    let p = both (eqb (length fs) 3) e in
    let q = both (ltb (column fs low_name) 3) p.1 in
    let r = both (ltb (column fs high_name) 3) q.1 in
    let len : length fs ≡ 3 = eqb-true (length fs) 3 p.0 in
    let hi : column fs low_name < 3 = ltb-true (column fs low_name) 3 q.0 in
    let hj : column fs high_name < 3 = ltb-true (column fs high_name) 3 r.0 in
    let hk : column fs words_name < 3 = ltb-true (column fs words_name) 3 r.1 in
    let a : get_or fs (column fs low_name) [] ≡ low_name = column_is fs low_name (omega arith) in
    let b : get_or fs (column fs high_name) [] ≡ high_name = column_is fs high_name (omega arith) in
    let d : get_or fs (column fs words_name) [] ≡ words_name = column_is fs words_name (omega arith) in
    let o = order_three (column fs low_name) (column fs high_name) (column fs words_name) hi hj hk (apart fs low_name high_name low_high a b) (apart fs low_name words_name low_words a d) (apart fs high_name words_name high_words b d) in
    record {
      order = o;
      is = sym (joined-parts l 32) ∙ ap (λ (x : List (List ℕ)). joined x 32) (three_of o fs len
          ∙ ap (λ (x : List ℕ). three (columns_of l) x (get_or fs (column fs high_name) []) (get_or fs (column fs words_name) [])) a
          ∙ ap (λ (x : List ℕ). three (columns_of l) low_name x (get_or fs (column fs words_name) [])) b
          ∙ ap (λ (x : List ℕ). three (columns_of l) low_name high_name x) d);
    }
  where
    low_high : low_name ≡ high_name → ⊥
    low_high q = omega (arith, ap (λ (x : List ℕ). length x) q)

    low_words : low_name ≡ words_name → ⊥
    low_words q = omega (arith, ap (λ (x : List ℕ). length x) q)

    high_words : high_name ≡ words_name → ⊥
    high_words q = omega (arith, ap (λ (x : List ℕ). length x) q)

-- a line that is right is its slot's line
record SlotBack (c : Columns) (l : List ℕ) : Type 0 where
  small : SmallSlot (read_slot c l)
  is : l ≡ slot_text c (read_slot c l)

slot_back : (c : Columns) → Order3 c.low c.high c.words → (l : List ℕ) → slot_values c l ≡ true → SlotBack c l
unfolding slot_values slot_text
slot_back c o l e =
    let fs = parts l 32 in
    let p = both (eqb (length fs) 3) e in
    let q = both (is_number (get_or fs c.low [])) p.1 in
    let r = both (is_number (get_or fs c.high [])) q.1 in
    let len : length fs ≡ 3 = eqb-true (length fs) 3 p.0 in
    let w = words_back (get_or fs c.words []) r.1 in
    record {
      small = record { low = number_small (get_or fs c.low []) q.0; high = number_small (get_or fs c.high []) r.0; words = w.small; some = w.some };
      is = sym (joined-parts l 32) ∙ ap (λ (x : List (List ℕ)). joined x 32) (three_of o fs len
          ∙ ap (λ (x : List ℕ). three c x (get_or fs c.high []) (get_or fs c.words [])) (number_shown (get_or fs c.low []) q.0)
          ∙ ap (λ (x : List ℕ). three c (digits (value (get_or fs c.low []))) x (get_or fs c.words [])) (number_shown (get_or fs c.high []) r.0)
          ∙ ap (λ (x : List ℕ). three c (digits (value (get_or fs c.low []))) (digits (value (get_or fs c.high []))) x) w.is);
    }

slots_back : (c : Columns) → Order3 c.low c.high c.words → {ls : List (List ℕ)} → AllRight (slot_values c) ls → SmallSlots (map (read_slot c) ls) × (ls ≡ map (slot_text c) (map (read_slot c) ls))
slots_back c o no_line = (no_slots, refl)
slots_back c o (right_line {l = l} {ls = ls} h r) =
    let b = slot_back c o l h in
    let q = slots_back c o r in
    (also_slot b.small q.0, ap (λ (x : List ℕ). x ∷ ls) b.is ∙ ap (λ (x : List (List ℕ)). slot_text c (read_slot c l) ∷ x) q.1)

refused_shown : (a : Refusal) (least most : ℕ) (rs : List SlotLine) → refused a ≡ shown least most rs → ⊥
refused_shown a least most rs e = let z : ◌≡◌ {A = ℕ} 0 1 = cc in omega arith

-- the contents are the same
pub record Same (x y : ℕ) (rs : List SlotLine) (least most : ℕ) (qs : List SlotLine) : Type 0 where
  pub least_is : x ≡ least
  pub most_is : y ≡ most
  pub slots_are : rs ≡ qs

shown-shown : {x y least most : ℕ} {rs qs : List SlotLine} → shown x y rs ≡ shown least most qs → Same x y rs least most qs
shown-shown e = record { least_is = cc; most_is = cc; slots_are = cc }

module _ (s : List ℕ) (least most : ℕ) (rs : List SlotLine) where
  all_lines : (l₁ l₂ l₃ : List ℕ) (ls : List (List ℕ)) → lines s ≡ l₁ ∷ l₂ ∷ l₃ ∷ ls → span_names l₁ ≡ true → span_values l₂ ≡ true → slot_names l₃ ≡ true
      → AllRight (slot_values (columns_of l₃)) ls → ended s 10 ≡ true
      → Same (value (field l₂ (column (fields l₁) least_name))) (value (field l₂ (column (fields l₁) most_name))) (map (read_slot (columns_of l₃)) ls) least most rs → PatternShows s least most rs
  all_lines l₁ l₂ l₃ ls el a b d r c w =
      let i = column (fields l₁) least_name in
      let j = column (fields l₁) most_name in
      let k = columns_of l₃ in
      let x = value (field l₂ i) in
      let y = value (field l₂ j) in
      let qs = map (read_slot k) ls in
      let one = names_two l₁ a in
      let second = values_two one.order l₂ b in
      let third = names_three l₃ d in
      let others = slots_back k third.order r in
      let m₁ = joined (two i least_name most_name) 32 in
      let m₂ = joined (two i (digits x) (digits y)) 32 in
      let shape : closed (file_lines i k x y qs) ≡ s =
      ap (λ (t : List (List ℕ)). closed (m₁ ∷ m₂ ∷ joined (three k low_name high_name words_name) 32 ∷ t)) (sym others.1)
      ∙ ap (λ (t : List ℕ). closed (m₁ ∷ m₂ ∷ t ∷ ls)) (sym third.is)
      ∙ ap (λ (t : List ℕ). closed (m₁ ∷ t ∷ l₃ ∷ ls)) (sym second.is)
      ∙ ap (λ (t : List ℕ). closed (t ∷ l₂ ∷ l₃ ∷ ls)) (sym one.is)
      ∙ ap closed (sym el) ∙ closed_read s 10 c in
      let base : PatternShows s x y qs = subst (λ (t : List ℕ). PatternShows t x y qs) shape (showing {i = i} {j = j} {c = k} one.order third.order second.first second.second others.0) in
      subst (λ (t : List SlotLine). PatternShows s least most t) w.slots_are
      (subst (λ (t : ℕ). PatternShows s least t qs) w.most_is
      (subst (λ (t : ℕ). PatternShows s t y qs) w.least_is base))

  on_layout : (l₁ l₂ l₃ : List ℕ) (ls : List (List ℕ)) → lines s ≡ l₁ ∷ l₂ ∷ l₃ ∷ ls → span_names l₁ ≡ true → span_values l₂ ≡ true → slot_names l₃ ≡ true
      → (y : Layout) → scan ls (slot_values (columns_of l₃)) (ended s 10) 0 ≡ y
      → from_slots y (columns_of l₃) (value (field l₂ (column (fields l₁) least_name))) (value (field l₂ (column (fields l₁) most_name))) ls ≡ shown least most rs → PatternShows s least most rs
  on_layout l₁ l₂ l₃ ls el a b d (Err n) q e = absurd (refused_shown _ least most rs e)
  on_layout l₁ l₂ l₃ ls el a b d (Ok n) q e =
      let r = scan_all ls (slot_values (columns_of l₃)) (ended s 10) 0 n q in
      all_lines l₁ l₂ l₃ ls el a b d r.0 r.1 (shown-shown e)

  on_third : (l₁ l₂ : List ℕ) (ls : List (List ℕ)) → lines s ≡ l₁ ∷ l₂ ∷ ls → span_names l₁ ≡ true → span_values l₂ ≡ true
      → from_slot_names ls (value (field l₂ (column (fields l₁) least_name))) (value (field l₂ (column (fields l₁) most_name))) (ended s 10) ≡ shown least most rs → PatternShows s least most rs
  on_third l₁ l₂ [] el a b e = absurd (refused_shown _ least most rs e)
  on_third l₁ l₂ (l₃ ∷ ls) el a b e = go (slot_names l₃) refl e
    where
      go : (x : Bool) → slot_names l₃ ≡ x
          → pick x (from_slots (scan ls (slot_values (columns_of l₃)) (ended s 10) 0) (columns_of l₃) (value (field l₂ (column (fields l₁) least_name))) (value (field l₂ (column (fields l₁) most_name))) ls) (refused (Names 3)) ≡ shown least most rs
          → PatternShows s least most rs
      go true q k = on_layout l₁ l₂ l₃ ls el a b q (scan ls (slot_values (columns_of l₃)) (ended s 10) 0) refl k
      go false q k = absurd (refused_shown _ least most rs k)

  on_second : (l₁ : List ℕ) (ls : List (List ℕ)) → lines s ≡ l₁ ∷ ls → span_names l₁ ≡ true
      → from_values ls (column (fields l₁) least_name) (column (fields l₁) most_name) (ended s 10) ≡ shown least most rs → PatternShows s least most rs
  on_second l₁ [] el a e = absurd (refused_shown _ least most rs e)
  on_second l₁ (l₂ ∷ ls) el a e = go (span_values l₂) refl e
    where
      go : (x : Bool) → span_values l₂ ≡ x
          → pick x (from_slot_names ls (value (field l₂ (column (fields l₁) least_name))) (value (field l₂ (column (fields l₁) most_name))) (ended s 10)) (refused (Values 2)) ≡ shown least most rs
          → PatternShows s least most rs
      go true q k = on_third l₁ l₂ ls el a q k
      go false q k = absurd (refused_shown _ least most rs k)

  on_first_lem : (ls : List (List ℕ)) → lines s ≡ ls → from_names ls (ended s 10) ≡ shown least most rs → PatternShows s least most rs
  on_first_lem [] el e = absurd (refused_shown _ least most rs e)
  on_first_lem (l₁ ∷ ls) el e = go (span_names l₁) refl e
    where
      go : (x : Bool) → span_names l₁ ≡ x
          → pick x (from_values ls (column (fields l₁) least_name) (column (fields l₁) most_name) (ended s 10)) (refused (Names 1)) ≡ shown least most rs
          → PatternShows s least most rs
      go true q k = on_second l₁ ls el q k
      go false q k = absurd (refused_shown _ least most rs k)

pattern-shows : (s : List ℕ) (least most : ℕ) (rs : List SlotLine) → pattern_contents s ≡ shown least most rs → PatternShows s least most rs
unfolding pattern_contents
pattern-shows s least most rs e = on_first_lem s least most rs (lines s) refl e

-- ---- both faces of a pattern file agree, and its contents are unique

pub pattern-shown : (s : List ℕ) (least most : ℕ) (rs : List SlotLine) → (pattern_contents s ≡ shown least most rs) ↔ PatternShows s least most rs
pattern-shown s least most rs = (pattern-shows s least most rs, shows-pattern)

pub pattern_once : {s : List ℕ} {x y least most : ℕ} {qs rs : List SlotLine} → PatternShows s x y qs → PatternShows s least most rs → Same x y qs least most rs
pattern_once a b = shown-shown (sym (shows-pattern a) ∙ shows-pattern b)
