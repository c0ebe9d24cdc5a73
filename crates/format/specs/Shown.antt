-- The other face of the format, stated by printing: the bytes of a file that shows a text or a pattern.
use Rattle.std.specs.Prelude.{ℕ, ◌≤◌, ◌<◌, ◌↔◌, Bool, false, ◌≡◌, eqb, length}
use mathlib.Core.List.{List, [], ◌∷◌, ◌++◌, map, Memᴰ}
use Rattle.basics.specs.Choice.{pick}
use Rattle.basics.specs.Digits.{digits_in}
use Rattle.format.specs.Names.{word_name, least_name, most_name, low_name, high_name, words_name}
use Rattle.format.specs.Patterns.{SlotLine}
use Rattle.format.specs.declared.names.Columns.{Columns}

-- ---- numbers, lines, fields

-- the digits of a number up to 65535
unfoldable pub digits : ℕ → List ℕ
digits n = digits_in 4 n

-- lines, each closed by byte 10
unfoldable pub closed : List (List ℕ) → List ℕ
closed [] = []
closed (l ∷ ls) = l ++ 10 ∷ closed ls

-- parts with the byte `sep` between them
unfoldable pub joined : List (List ℕ) → ℕ → List ℕ
joined [] sep = []
joined (p ∷ []) sep = p
joined (p ∷ (q ∷ ps)) sep = p ++ sep ∷ joined (q ∷ ps) sep

-- every number is at most 65535
pub data Small : List ℕ → Type 0 where
  none : Small []
  also : {n : ℕ} {ns : List ℕ} → n ≤ 65535 → Small ns → Small (n ∷ ns)

-- ---- texts

-- the file shows the words
pub data TextShows : List ℕ → List ℕ → Type 0 where
  empty : TextShows [] []
  headed : (ws : List ℕ) → Small ws → TextShows (closed (word_name ∷ map digits ws)) ws

-- ---- patterns

-- an order of two names: their columns, from 0
pub data Order2 : ℕ → ℕ → Type 0 where
  lm : Order2 0 1
  ml : Order2 1 0

-- and of three
pub data Order3 : ℕ → ℕ → ℕ → Type 0 where
  lhw : Order3 0 1 2
  lwh : Order3 0 2 1
  hlw : Order3 1 0 2
  wlh : Order3 1 2 0
  hwl : Order3 2 0 1
  whl : Order3 2 1 0

-- two things, the first in column i
abbrev pub two : {A : Type 0} → ℕ → A → A → List A
two i a b = pick (eqb i 0) (a ∷ b ∷ []) (b ∷ a ∷ [])

-- the one of three things whose column is k
abbrev pub one_of : {A : Type 0} → Columns → ℕ → A → A → A → A
one_of c k l h w = pick (eqb c.low k) l (pick (eqb c.high k) h w)

-- the columns of `low high words`, as document 01 has these names
abbrev pub paper_order : Columns
paper_order = record { low = 0; high = 1; words = 2 }

-- three things, each in its column
abbrev pub three : {A : Type 0} → Columns → A → A → A → List A
three c l h w = one_of c 0 l h w ∷ one_of c 1 l h w ∷ one_of c 2 l h w ∷ []

-- `!` for an excluding slot
abbrev pub mark_text : Bool → List ℕ
mark_text excluding = pick excluding (33 ∷ []) []

-- a slot's words with commas between them, and `!` before those of an excluding slot
abbrev pub words_text : Bool → List ℕ → List ℕ
words_text excluding ws = mark_text excluding ++ joined (map digits ws) 44

-- the line of a slot
unfoldable pub slot_text : Columns → SlotLine → List ℕ
slot_text c r = joined (three c (digits r.low) (digits r.high) (words_text r.excluding r.words)) 32

-- the lines of a pattern file
abbrev pub file_lines : ℕ → Columns → ℕ → ℕ → List SlotLine → List (List ℕ)
file_lines i c least most rs =
    joined (two i least_name most_name) 32 ∷ joined (two i (digits least) (digits most)) 32 ∷
    joined (three c low_name high_name words_name) 32 ∷ map (slot_text c) rs

-- numbers that can be shown, and at least one word where the slot is not excluding
pub record SmallSlot (r : SlotLine) : Type 0 where
  pub low : r.low ≤ 65535
  pub high : r.high ≤ 65535
  pub words : Small r.words
  pub some : r.excluding ≡ false → 0 < length r.words

-- all lines are such
pub data SmallSlots : List SlotLine → Type 0 where
  no_slots : SmallSlots []
  also_slot : {r : SlotLine} {rs : List SlotLine} → SmallSlot r → SmallSlots rs → SmallSlots (r ∷ rs)

-- lines of a slot that differ only in the order and repetition of its words, at most eight
pub record AlikeLine (r q : SlotLine) : Type 0 where
  pub low : r.low ≡ q.low
  pub high : r.high ≡ q.high
  pub excluding : r.excluding ≡ q.excluding
  pub words : (w : ℕ) → Memᴰ w r.words ↔ Memᴰ w q.words
  pub few : (length r.words ≤ 8) × (length q.words ≤ 8)

-- line for line
pub data AlikeLines : List SlotLine → List SlotLine → Type 0 where
  no_line : AlikeLines [] []
  also_line : {r q : SlotLine} {rs qs : List SlotLine} → AlikeLine r q → AlikeLines rs qs → AlikeLines (r ∷ rs) (q ∷ qs)

-- the file shows the span limits and the slots, with the names of each line in some order
pub data PatternShows : List ℕ → ℕ → ℕ → List SlotLine → Type 0 where
  showing : {i j : ℕ} {c : Columns} {least most : ℕ} {rs : List SlotLine} → Order2 i j → Order3 c.low c.high c.words → least ≤ 65535 → most ≤ 65535 → SmallSlots rs
      → PatternShows (closed (file_lines i c least most rs)) least most rs
