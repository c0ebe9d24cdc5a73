-- A pattern file that shows span limits and slots is read as those. Assumes nothing.
use Rattle.std.specs.Prelude.{ℕ, ◌≤◌, ◌<◌, Bool, true, false, List, [], ◌∷◌, map, ◌≡◌, refl, eqb, length, get_or}
use Rattle.std.proofs.Common.{arith, ◌∙◌, ap, eq-eqb}
use Rattle.std.proofs.lemmas.Bool.{eqb-false}
use Rattle.basics.specs.Choice.{pick}
use Rattle.format.specs.Bytes.{field, fields, parts, same, value}
use Rattle.format.specs.Names.{column, columns_of, high_name, least_name, low_name, most_name, slot_names, span_names, words_name}
use Rattle.format.specs.Patterns.{SlotLine, from_names, pattern_contents, read_slot, shown, slot_values, span_values}
use Rattle.format.specs.Shown.{Order2, Order3, PatternShows, SmallSlot, SmallSlots, also_slot, digits, file_lines, hlw, hwl, joined, lhw, lm, lwh, ml, no_slots, one_of, showing, slot_text, three, two, whl, wlh, words_text}
use Rattle.format.specs.declared.names.Columns.{Columns}
use Rattle.format.specs.Laws.Fields.{free_joined, is_number_lem, parts-joined, value_digits, words_read, words_right}
use Rattle.format.specs.Laws.Words.{WordsPrinted, free_words, words-printed}
use Rattle.format.specs.Laws.Lines.{AllFree, AllRight, Free, all_also, all_none, ended-closed, free_also, free_digits, free_none, lines-closed, no_line, right_line, scan_right}
use Rattle.format.specs.Laws.Orders.{cols, three_high, three_low, three_words}

-- the lines of names, which compute
record Named2 (l : List ℕ) (i j : ℕ) : Type 0 where
  right : span_names l ≡ true
  first : column (fields l) least_name ≡ i
  second : column (fields l) most_name ≡ j

span_named : {i j : ℕ} → Order2 i j → Named2 (joined (two i least_name most_name) 32) i j
unfolding joined parts column same
span_named lm = record { right = refl; first = refl; second = refl }
span_named ml = record { right = refl; first = refl; second = refl }

record Named3 (l : List ℕ) (c : Columns) : Type 0 where
  right : slot_names l ≡ true
  where_are : columns_of l ≡ c

slot_named : {i j k : ℕ} → Order3 i j k → Named3 (joined (three (cols i j k) low_name high_name words_name) 32) (cols i j k)
unfolding joined parts column same
slot_named lhw = record { right = refl; where_are = refl }
slot_named lwh = record { right = refl; where_are = refl }
slot_named hlw = record { right = refl; where_are = refl }
slot_named wlh = record { right = refl; where_are = refl }
slot_named hwl = record { right = refl; where_are = refl }
slot_named whl = record { right = refl; where_are = refl }

free_one : {sep : ℕ} (x y : Bool) {a b d : List ℕ} → Free sep a → Free sep b → Free sep d → Free sep (pick x a (pick y b d))
free_one true y f g h = f
free_one false true f g h = g
free_one false false f g h = h

free_three : {sep : ℕ} (c : Columns) {a b d : List ℕ} → Free sep a → Free sep b → Free sep d → AllFree sep (three c a b d)
free_three c f g h =
    all_also (free_one (eqb c.low 0) (eqb c.high 0) f g h)
    (all_also (free_one (eqb c.low 1) (eqb c.high 1) f g h)
    (all_also (free_one (eqb c.low 2) (eqb c.high 2) f g h) all_none))

-- a line of two values
record Valued2 (l : List ℕ) (i j least most : ℕ) : Type 0 where
  right : span_values l ≡ true
  first : value (field l i) ≡ least
  second : value (field l j) ≡ most

span_valued : {i j : ℕ} → Order2 i j → (least most : ℕ) → least ≤ 65535 → most ≤ 65535 → Valued2 (joined (two i (digits least) (digits most)) 32) i j least most
span_valued lm a b h k =
    let p = parts-joined 32 (digits a) (digits b ∷ []) (all_also (free_digits 32 a (omega arith)) (all_also (free_digits 32 b (omega arith)) all_none)) in
    record { right = rw p (rw (is_number_lem a h) (is_number_lem b k)); first = rw p (value_digits a h); second = rw p (value_digits b k) }
span_valued ml a b h k =
    let p = parts-joined 32 (digits b) (digits a ∷ []) (all_also (free_digits 32 b (omega arith)) (all_also (free_digits 32 a (omega arith)) all_none)) in
    record { right = rw p (rw (is_number_lem b k) (is_number_lem a h)); first = rw p (value_digits a h); second = rw p (value_digits b k) }

-- a line of a slot's values
module _ (c : Columns) (l : List ℕ) (r : SlotLine) (len : length (parts l 32) ≡ 3) (fl : get_or (parts l 32) c.low [] ≡ digits r.low) (fh : get_or (parts l 32) c.high [] ≡ digits r.high) (fw : get_or (parts l 32) c.words [] ≡ words_text r.excluding r.words) (small : SmallSlot r) where
  printed : WordsPrinted (words_text r.excluding r.words) r.excluding r.words
  printed = words-printed r.excluding small.words small.some

  slot_right : slot_values c l ≡ true
  unfolding slot_values
  slot_right =
      rw (eq-eqb (length (parts l 32)) 3 len)
      (rw fl (rw (is_number_lem r.low small.low)
      (rw fh (rw (is_number_lem r.high small.high)
      (rw fw (rw printed.words (words_right small.words)))))))

  slot_read : read_slot c l ≡ r
  slot_read =
      rw (fl, fh, fw) (rw (value_digits r.low small.low, value_digits r.high small.high, printed.mark, printed.words, words_read small.words))

free_slot : (sep : ℕ) (c : Columns) (r : SlotLine) → sep < 32 → Free sep (slot_text c r)
unfolding slot_text
free_slot sep c r h =
    free_joined sep 32 (space sep h) (three c (digits r.low) (digits r.high) (words_text r.excluding r.words))
    (free_three c (free_digits sep r.low (omega arith)) (free_digits sep r.high (omega arith)) (free_words sep (omega arith) r.excluding r.words))
  where
    space : (a : ℕ) → a < 32 → 32 ≡ a → ⊥
    space a k e = omega arith

record Shown (c : Columns) (l : List ℕ) (r : SlotLine) : Type 0 where
  right : slot_values c l ≡ true
  is : read_slot c l ≡ r

slot-shown : {i j k : ℕ} → Order3 i j k → (r : SlotLine) → SmallSlot r → Shown (cols i j k) (slot_text (cols i j k) r) r
unfolding slot_text
slot-shown {i} {j} {k} o r small =
    let a = digits r.low in
    let b = digits r.high in
    let d = words_text r.excluding r.words in
    let c = cols i j k in
    let w : Free 32 d = free_words 32 (omega arith) r.excluding r.words in
    let p : parts (joined (three c a b d) 32) 32 ≡ three c a b d =
    parts-joined 32 (one_of c 0 a b d) (one_of c 1 a b d ∷ one_of c 2 a b d ∷ []) (free_three c (free_digits 32 r.low (omega arith)) (free_digits 32 r.high (omega arith)) w) in
    let len : length (parts (joined (three c a b d) 32) 32) ≡ 3 = ap (λ (fs : List (List ℕ)). length fs) p in
    let fl = ap (λ (fs : List (List ℕ)). get_or fs i []) p ∙ three_low o a b d in
    let fh = ap (λ (fs : List (List ℕ)). get_or fs j []) p ∙ three_high o a b d in
    let fw = ap (λ (fs : List (List ℕ)). get_or fs k []) p ∙ three_words o a b d in
    record { right = slot_right c (joined (three c a b d) 32) r len fl fh fw small; is = slot_read c (joined (three c a b d) 32) r len fl fh fw small }

module _ (i j k : ℕ) (o : Order3 i j k) where
  slots_right : {rs : List SlotLine} → SmallSlots rs → AllRight (slot_values (cols i j k)) (map (slot_text (cols i j k)) rs)
  slots_right no_slots = no_line
  slots_right (also_slot {r = r} s q) = right_line (slot-shown o r s).right (slots_right q)

  slots_read : {rs : List SlotLine} → SmallSlots rs → map (read_slot (cols i j k)) (map (slot_text (cols i j k)) rs) ≡ rs
  slots_read no_slots = refl
  slots_read (also_slot {r = r} {rs = rs} s q) = ap (λ (x : SlotLine). x ∷ map (read_slot (cols i j k)) (map (slot_text (cols i j k)) rs)) (slot-shown o r s).is ∙ ap (λ (x : List SlotLine). r ∷ x) (slots_read q)

free_slots : (c : Columns) (rs : List SlotLine) → AllFree 10 (map (slot_text c) rs)
free_slots c [] = all_none
free_slots c (r ∷ rs) = all_also (free_slot 10 c r (omega arith)) (free_slots c rs)

-- lines that are right, one by one
accept : (l₁ l₂ l₃ : List ℕ) (ls : List (List ℕ)) (i j : ℕ) (c : Columns) (least most : ℕ) (rs : List SlotLine)
    → Named2 l₁ i j → Valued2 l₂ i j least most → Named3 l₃ c → AllRight (slot_values c) ls → map (read_slot c) ls ≡ rs
    → from_names (l₁ ∷ l₂ ∷ l₃ ∷ ls) true ≡ shown least most rs
accept l₁ l₂ l₃ ls i j c least most rs a b d r e =
    rw a.right (rw (a.first, a.second) (rw b.right (rw (b.first, b.second) (rw d.right (rw d.where_are (rw (scan_right ls (slot_values c) 0 r) (ap (shown least most) e)))))))

space_free : ◌≡◌ {A = ℕ} 32 10 → ⊥
space_free e = omega arith

free_two : (i : ℕ) {a b : List ℕ} → Free 10 a → Free 10 b → Free 10 (joined (two i a b) 32)
free_two i {a} {b} f g = go (eqb i 0)
  where
    go : (x : Bool) → Free 10 (joined (pick x (a ∷ b ∷ []) (b ∷ a ∷ [])) 32)
    go true = free_joined 10 32 space_free (a ∷ b ∷ []) (all_also f (all_also g all_none))
    go false = free_joined 10 32 space_free (b ∷ a ∷ []) (all_also g (all_also f all_none))

-- a list that has no `sep`, by computing
holds_no : (sep : ℕ) → List ℕ → Bool
holds_no sep [] = true
holds_no sep (b ∷ s) = pick (eqb b sep) false (holds_no sep s)

free_computed : (s : List ℕ) (sep : ℕ) → holds_no sep s ≡ true → Free sep s
unfolding holds_no
free_computed [] sep h = free_none
free_computed (b ∷ s) sep h = go (eqb b sep) refl h (free_computed s sep)
  where
    go : (x : Bool) → eqb b sep ≡ x → pick x false (holds_no sep s) ≡ true → (holds_no sep s ≡ true → Free sep s) → Free sep (b ∷ s)
    go true q k r = absurd (let z : ◌≡◌ {A = ℕ} 0 1 = cc in omega arith)
    go false q k r = free_also (eqb-false b sep q) (r k)

free_names : Free 10 least_name × Free 10 most_name × Free 10 low_name × Free 10 high_name × Free 10 words_name
unfolding holds_no
free_names = (free_computed least_name 10 refl, free_computed most_name 10 refl, free_computed low_name 10 refl, free_computed high_name 10 refl, free_computed words_name 10 refl)

-- a file that shows a pattern is read as that
pub shows-pattern : {s : List ℕ} {least most : ℕ} {rs : List SlotLine} → PatternShows s least most rs → pattern_contents s ≡ shown least most rs
unfolding pattern_contents
shows-pattern (showing {i = i} {j = j} {c = c} {least = least} {most = most} {rs = rs} o p h k r) =
    let free : AllFree 10 (file_lines i c least most rs) =
    all_also (free_two i free_names.0 free_names.1) (all_also (free_two i (free_digits 10 least (omega arith)) (free_digits 10 most (omega arith)))
    (all_also (free_joined 10 32 space_free (three c low_name high_name words_name) (free_three c free_names.2 free_names.3 free_names.4)) (free_slots c rs))) in
    rw (lines-closed free, ended-closed (file_lines i c least most rs))
    (accept (joined (two i least_name most_name) 32) (joined (two i (digits least) (digits most)) 32) (joined (three c low_name high_name words_name) 32) (map (slot_text c) rs) i j c least most rs
    (span_named o) (span_valued o least most h k) (slot_named p) (slots_right c.low c.high c.words p r) (slots_read c.low c.high c.words p r))
