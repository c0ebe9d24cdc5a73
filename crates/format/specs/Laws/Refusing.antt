-- By which numbers reading refuses: a pattern file by 1 to 5 and 10 to 12, two files in one call also by 6 and 13. So neither gives 9 or 16.
use Rattle.std.specs.Prelude.{ℕ, ◌+◌, ◌≤◌, ◌≡◌, Bool, length, ltb, Ok, Err, Result}
use Rattle.std.proofs.Common.{arith, sym, ◌∙◌}
use Rattle.std.proofs.Math.Path.{refl}
use Rattle.std.proofs.Math.Bool.{true, false}
use mathlib.Core.List.{List, [], ◌∷◌, map}
use Rattle.pattern.specs.declared.Pattern.{Pattern}
use Rattle.pattern.specs.declared.refusal.Refusal.{Refusal}
use Rattle.pattern.specs.declared.refusal.Refusal.TheVariants.{TextLength, Names, Values, FileLength, WordListLength, WordOrder}
use Rattle.pattern.specs.Refusals.{number_of}
use Rattle.pattern.specs.Tests.{Verdict, pattern_verdict}
use Rattle.pattern.specs.Laws.Refusing.{Only, limits_number}
use Rattle.basics.specs.Choice.{pick}
use Rattle.format.specs.Bytes.{decimal, ended, field, fields, is_number, lines, same, value}
use Rattle.format.specs.declared.input.Input.{Input}
use Rattle.format.specs.Input.{input_read, with_pattern}
use Rattle.format.specs.Layouts.{Layout, scan}
use Rattle.format.specs.Names.{column, columns_of, least_name, most_name, slot_names, span_names, word_name}
use Rattle.format.specs.Patterns.{PatternContents, SlotLine, from_names, from_slot_names, from_slots, from_values, judged_by, pattern_answer, pattern_contents, pattern_read, read_slot, refused, shown, shown_pattern, slot_values, span_values}
use Rattle.format.specs.Texts.{after_name, of_lines, text_answer, text_contents, text_read, words}
use Rattle.format.specs.Texts.{refused as unread}
use Rattle.format.specs.Laws.Limits.{limits_first, stated_pattern}
use Rattle.format.specs.declared.names.Columns.{Columns}

contents_is : {a b : Refusal} → refused a ≡ refused b → a ≡ b
contents_is e = cc

shown_not : {least most : ℕ} {ls : List SlotLine} {why : Refusal} → shown least most ls ≡ refused why → ⊥
shown_not e = let z : ◌≡◌ {A = ℕ} 0 1 = cc in omega arith

-- an answer that is refused, if at all, by a number with P
abbrev pub OnlyErr : {A : Type 0} → (ℕ → Type 0) → Result A Refusal → Type 0
OnlyErr P r = (why : Refusal) → r ≡ Err why → P (number_of why)

refusal_is : {A : Type 0} {a b : Refusal} → ◌≡◌ {A = Result A Refusal} (Err a) (Err b) → a ≡ b
refusal_is e = cc

not_refused : {A : Type 0} {x : A} {why : Refusal} → ◌≡◌ {A = Result A Refusal} (Ok x) (Err why) → ⊥
not_refused e = cc

module _ (A : Type 0) (P : ℕ → Type 0) where
  by_err : (a : Refusal) → P (number_of a) → OnlyErr {A = A} P (Err a)
  by_err a h why e = rw (← (refusal_is e)) h

  by_ok : (x : A) → OnlyErr {A = A} P (Ok x)
  by_ok x why e = absurd (not_refused e)

  by_pick : (b : Bool) (q r : Result A Refusal) → OnlyErr P q → OnlyErr P r → OnlyErr P (pick b q r)
  by_pick true q r h k = h
  by_pick false q r h k = k

module _ (P : ℕ → Type 0) (low : (n : ℕ) → n ≤ 5 → P n) (layout : (n : ℕ) → 10 ≤ n → n ≤ 12 → P n) where
  -- ---- what stands in a pattern file

  -- contents that are refused, if at all, by a number with P
  abbrev Laid : PatternContents → Type 0
  Laid c = (why : Refusal) → c ≡ refused why → P (number_of why)

  laid : (a : Refusal) → 10 ≤ number_of a → number_of a ≤ 12 → Laid (refused a)
  laid a h k why e = rw (← (contents_is e)) (layout (number_of a) h k)

  laid-shown : (least most : ℕ) (ls : List SlotLine) → Laid (shown least most ls)
  laid-shown least most ls why e = absurd (shown_not e)

  laid-pick : (b : Bool) (c d : PatternContents) → Laid c → Laid d → Laid (pick b c d)
  laid-pick true c d h k = h
  laid-pick false c d h k = k

  from-slots : (y : Layout) (c : Columns) (least most : ℕ) (ls : List (List ℕ)) → Laid (from_slots y c least most ls)
  from-slots (Err n) c least most ls = laid (Values (n + 4)) (omega arith) (omega arith)
  from-slots (Ok n) c least most ls = laid-shown least most (map (read_slot c) ls)

  from-slot-names : (ls : List (List ℕ)) (least most : ℕ) (closed : Bool) → Laid (from_slot_names ls least most closed)
  from-slot-names [] least most closed = laid (Names 3) (omega arith) (omega arith)
  from-slot-names (l ∷ ls) least most closed =
      laid-pick (slot_names l) _ (refused (Names 3)) (from-slots (scan ls (slot_values (columns_of l)) closed 0) (columns_of l) least most ls) (laid (Names 3) (omega arith) (omega arith))

  from-values : (ls : List (List ℕ)) (i j : ℕ) (closed : Bool) → Laid (from_values ls i j closed)
  from-values [] i j closed = laid (Values 2) (omega arith) (omega arith)
  from-values (l ∷ ls) i j closed =
      laid-pick (span_values l) _ (refused (Values 2)) (from-slot-names ls (value (field l i)) (value (field l j)) closed) (laid (Values 2) (omega arith) (omega arith))

  from-names : (ls : List (List ℕ)) (closed : Bool) → Laid (from_names ls closed)
  from-names [] closed = laid (Names 1) (omega arith) (omega arith)
  from-names (l ∷ ls) closed =
      laid-pick (span_names l) _ (refused (Names 1)) (from-values ls (column (fields l) least_name) (column (fields l) most_name) closed) (laid (Names 1) (omega arith) (omega arith))

  contents-laid : (s : List ℕ) → Laid (pattern_contents s)
  unfolding pattern_contents
  contents-laid s = from-names (lines s) (ended s 10)

  -- ---- a pattern file

  by_length : {A : Type 0} → OnlyErr {A = A} P (Err FileLength)
  by_length {A} = by_err A P FileLength (layout 12 (omega arith) (omega arith))

  judged_only : (v : Verdict) (f : Pattern) → Only P v → OnlyErr P (judged_by v f)
  judged_only (Ok tt) f h = by_ok Pattern P f
  judged_only (Err why) f h = by_err Pattern P why (h why refl)

  answer_only : (s : List ℕ) (c : PatternContents) → pattern_contents s ≡ c → OnlyErr P (pattern_answer c)
  answer_only s (refused a) e = by_err Pattern P a (contents-laid s a e)
  answer_only s (shown least most ls) e =
      judged_only (pattern_verdict (shown_pattern least most ls)) (shown_pattern least most ls)
      (λ why r. low (number_of why) (limits_number (stated_pattern least most ls) why (sym (limits_first least most ls) ∙ r)))

  pub pattern_only : (s : List ℕ) → OnlyErr P (pattern_read s)
  unfolding pattern_read
  pattern_only s = by_pick Pattern P (ltb 60000 (length s)) (Err FileLength) (pattern_answer (pattern_contents s)) by_length (answer_only s (pattern_contents s) refl)

  -- ---- a text file, and both

  module _ (six : P 6) (thirteen : P 13) where
    words_only : (ws : List ℕ) (room : ℕ) → OnlyErr P (text_answer (words ws) room)
    words_only ws room =
        by_pick ℕ P (ltb 20000 (length ws)) (Err TextLength) (pick (ltb room (length ws)) (Err WordListLength) (Ok (length ws))) (by_err ℕ P TextLength six)
        (by_pick ℕ P (ltb room (length ws)) (Err WordListLength) (Ok (length ws)) (by_err ℕ P WordListLength thirteen) (by_ok ℕ P (length ws)))

    after_name_lem : (y : Layout) (ls : List (List ℕ)) (room : ℕ) → OnlyErr P (text_answer (after_name y ls) room)
    after_name_lem (Err n) ls room = by_err ℕ P (Values (n + 2)) (layout 11 (omega arith) (omega arith))
    after_name_lem (Ok n) ls room = words_only (map decimal ls) room

    of_lines_lem : (ls : List (List ℕ)) (closed : Bool) (room : ℕ) → OnlyErr P (text_answer (of_lines ls closed) room)
    of_lines_lem [] closed room = by_err ℕ P (Names 1) (layout 10 (omega arith) (omega arith))
    of_lines_lem (l ∷ ls) closed room = go (same l word_name)
      where
        go : (b : Bool) → OnlyErr P (text_answer (pick b (after_name (scan ls is_number closed 0) ls) (unread (Names 1))) room)
        go true = after_name_lem (scan ls is_number closed 0) ls room
        go false = by_err ℕ P (Names 1) (layout 10 (omega arith) (omega arith))

    contents_only : (s : List ℕ) (room : ℕ) → OnlyErr P (text_answer (text_contents s) room)
    unfolding text_contents
    contents_only [] room = words_only [] room
    contents_only (b ∷ s) room = of_lines_lem (lines (b ∷ s)) (ended (b ∷ s) 10) room

    pub text_only : (s : List ℕ) (room : ℕ) → OnlyErr P (text_read s room)
    unfolding text_read
    text_only s room = by_pick ℕ P (ltb 60000 (length s)) (Err FileLength) (text_answer (text_contents s) room) by_length (contents_only s room)

    with_pattern_lem : (v : Result Pattern Refusal) (r : Result ℕ Refusal) → OnlyErr P v → OnlyErr P r → OnlyErr P (with_pattern v r)
    with_pattern_lem (Ok f) (Ok n) h k = by_ok Input P (record { words = n; pattern = f })
    with_pattern_lem (Ok f) (Err a) h k = by_err Input P a (k a refl)
    with_pattern_lem (Err a) r h k = by_err Input P a (h a refl)

    pub input_only : (p t : List ℕ) (room : ℕ) → OnlyErr P (input_read p t room)
    unfolding input_read
    input_only p t room =
        by_pick Input P (ltb 60000 (length p)) (Err FileLength) (pick (ltb 60000 (length t)) (Err FileLength) (with_pattern (pattern_read p) (text_read t room))) by_length
        (by_pick Input P (ltb 60000 (length t)) (Err FileLength) (with_pattern (pattern_read p) (text_read t room)) by_length (with_pattern_lem (pattern_read p) (text_read t room) (pattern_only p) (text_only t room)))

-- no file is refused with 16
pub read_in_order : (s : List ℕ) (slot : ℕ) → pattern_read s ≡ Err (WordOrder slot) → ⊥
read_in_order s slot e = pattern_only (λ n. n ≡ 16 → ⊥) (λ n h z. omega arith) (λ n h k z. omega arith) s (WordOrder slot) e refl

-- nor with 9
pub read_not_nine : (p t : List ℕ) (room : ℕ) {why : Refusal} → input_read p t room ≡ Err why → number_of why ≡ 9 → ⊥
read_not_nine p t room {why} =
    input_only (λ n. n ≡ 9 → ⊥) (λ n h z. omega arith) (λ n h k z. omega arith) (λ z. omega arith) (λ z. omega arith) p t room why
