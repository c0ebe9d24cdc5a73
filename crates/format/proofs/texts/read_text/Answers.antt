-- Each test tells the definition one step more.
use Rattle.std.proofs.Common.{rules, ◌≡◌, [], Ok, length, refl, sym, ◌∙◌, arith}
use borrow.Author.Tests.{eqb-false, eqb-true, tests}
use Rattle.pattern.specs.declared.refusal.Refusal.TheVariants.{Names}
use Rattle.format.specs.Bytes.{is_number}
use Rattle.format.specs.Steps.ClosedLines.{OpenLine, laid}
use Rattle.format.specs.Steps.ValueLines.{word_lines}
use Rattle.format.proofs.ByteSteps.{same_by_ne}
use Rattle.format.proofs.TextSteps.{Named, all_read, is_long, is_read, is_refused, is_wrong_lem, lines_right, over_many, text_name, text_none, text_open, text_rest, too_short}
use Rattle.format.proofs.texts.read_text.Goals as goal
use Rattle.format.proofs.texts.read_text.Goals.{Else-ne, In_ok-count}

-- what is known past the line of the name
named : (c : Else-ne) → Named c.args.bytes.now c.in_ok-name.rest.now
named c =
    let some : length c.args.bytes.now ≡ 0 → ⊥ = eqb-false _ _ (sym c.is_empty.ensures ∙ c.if-is_empty.false) in
    record { small = c.if-bytes-gt-FILE.false; contents = text_rest (omega arith) (rw c.in_ok-name.ensures.ok_part at c.first_line.ensures) (same_by_ne _ _ _ _ _ c.ne.ensures c.as_slice.ensures c.if-ne.false) }

counted : (c : In_ok-count) → laid 2 (word_lines c.in_ok-name.rest.now) ≡ Ok c.in_ok-count.count
unfolding word_lines
counted c = sym (c.in_ok-count.ensures.value is_number (λ l b r. search (rules, tests)))

pub returns-then-bytes-gt-FILE : goal.returns-then-bytes-gt-FILE
returns-then-bytes-gt-FILE c =
    let d = is_long c.args.bytes.now c.args.words.now c.if-bytes-gt-FILE.true in
    (d.answer, d.content)

pub returns-then-is_empty : goal.returns-then-is_empty
returns-then-is_empty c =
    let d = is_read c.args.bytes.now c.args.words.now c.if-bytes-gt-FILE.false [] 0 (text_none c.args.bytes.now (eqb-true _ _ (sym c.is_empty.ensures ∙ c.if-is_empty.true))) refl (omega arith) (omega arith) in
    (d.answer, d.content)

pub returns-in_err-name : goal.returns-in_err-name
returns-in_err-name c =
    let some : length c.args.bytes.now ≡ 0 → ⊥ = eqb-false _ _ (sym c.is_empty.ensures ∙ c.if-is_empty.false) in
    let o : OpenLine c.args.bytes.now = rw c.in_err-name.ensures.ok_part at c.first_line.ensures in
    let d = is_refused c.args.bytes.now c.args.words.now c.if-bytes-gt-FILE.false (Names 1) (text_open (omega arith) o) in
    (rw (← (d.answer)) (search rules), d.content)

pub returns-then-ne : goal.returns-then-ne
returns-then-ne c =
    let some : length c.args.bytes.now ≡ 0 → ⊥ = eqb-false _ _ (sym c.is_empty.ensures ∙ c.if-is_empty.false) in
    let d = is_refused c.args.bytes.now c.args.words.now c.if-bytes-gt-FILE.false (Names 1) (text_name (omega arith) (rw c.in_ok-name.ensures.ok_part at c.first_line.ensures) (same_by_ne _ _ _ _ _ c.ne.ensures c.as_slice.ensures c.if-ne.true)) in
    (d.answer, d.content)

pub returns-in_err-count : goal.returns-in_err-count
unfolding word_lines
returns-in_err-count c =
    let n = named (goal.at.returns-in_err-count c).Else-ne in
    let d = is_wrong_lem n c.args.words.now _ (sym (c.in_err-count.ensures.value is_number (λ l b r. search (rules, tests)))) in
    (rw (← (d.answer)) (search rules), d.content)

pub returns-then-count-gt-TEXT : goal.returns-then-count-gt-TEXT
returns-then-count-gt-TEXT c =
    let n = named (goal.at.returns-then-count-gt-TEXT c).Else-ne in
    let d = over_many n c.in_ok-count.count (counted (goal.at.returns-then-count-gt-TEXT c).In_ok-count) c.args.words.now (omega arith) in
    (d.answer, d.content)

pub returns-then-words-count : goal.returns-then-words-count
returns-then-words-count c =
    let n = named (goal.at.returns-then-words-count c).Else-ne in
    let d = too_short n c.in_ok-count.count (counted (goal.at.returns-then-words-count c).In_ok-count) c.args.words.now (omega arith) (omega arith) in
    (d.answer, d.content)

pub write_words-requires : goal.write_words-requires
write_words-requires c =
    let n = named (goal.at.write_words-requires c).Else-ne in
    (lines_right n c.in_ok-count.count (counted (goal.at.write_words-requires c).In_ok-count), omega arith)

pub returns : goal.returns
returns c =
    let n = named (goal.at.returns c).Else-ne in
    let d = all_read n c.in_ok-count.count (counted (goal.at.returns c).In_ok-count) c.args.words.now (omega arith) (omega arith) in
    (d.answer, c.write_words.ensures ∙ d.content)
