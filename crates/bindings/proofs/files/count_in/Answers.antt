-- Once both files are read, pattern and text are accepted, so the support answers with the count; a refusal is handed on.
use Rattle.std.proofs.Common.{◌≡◌, ◌≤◌, ◌∙◌, ap, sym, rules, arith, length, take, length-take-le, Err}
use Rattle.bindings.specs.Counts.{count_in}
use Rattle.bindings.proofs.Counting.{count_refused, counted_all, fits}
use Rattle.bindings.proofs.files.count_in.Goals as goal
use Rattle.bindings.proofs.files.count_in.Goals.{In_ok-input}

-- the words that were read lie within the list
within : (c : In_ok-input) → c.in_ok-input.input.words ≤ length c.read_input.new.words
within c =
    let a = c.args in
    omega (arith, fits a.pattern.now a.text.now a.words.now c.requires c.in_ok-input.input (sym c.read_input.ensures.0 ∙ c.in_ok-input.was), ap length c.read_input.ensures.1)

pub returns-in_err-input : goal.returns-in_err-input
returns-in_err-input c =
    let a = c.args in
    let refused : count_in a.pattern.now a.text.now ≡ Err c.in_err-input.field-0.0 =
    count_refused a.pattern.now a.text.now a.words.now c.requires (sym c.read_input.ensures.0 ∙ c.in_err-input.was) in
    rw refused (search rules)

pub slice_bounds-support-end : goal.slice_bounds-support-end
slice_bounds-support-end c = within (goal.at.slice_bounds-support-end c).In_ok-input

pub slice_bounds-support-end-2 : goal.slice_bounds-support-end-2
slice_bounds-support-end-2 c = sym (length-take-le c.in_ok-input.input.words c.read_input.new.words (within (goal.at.slice_bounds-support-end-2 c).In_ok-input))

pub returns : goal.returns
returns c =
    let a = c.args in
    c.support.ensures.value
    ∙ counted_all a.pattern.now a.text.now a.words.now c.requires c.in_ok-input.input (sym c.read_input.ensures.0 ∙ c.in_ok-input.was)
    (ap (take c.in_ok-input.input.words) c.read_input.ensures.1)
