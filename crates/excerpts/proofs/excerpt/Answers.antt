-- `excerpts::excerpt` meets its contract: an occurrence's first and last place are places of the text, in order.
use Rattle.std.proofs.Common.{◌-◌, [], sym, ◌∙◌, arith}
use Rattle.matching.specs.Occurrence.{at}
use Rattle.excerpts.specs.Answers.{is_occurrence, excerpt_of, excerpt_start}
use Rattle.excerpts.specs.Laws.Excerpts.{Hit, hit, hit_first, hit_order, hit_last}
use Rattle.excerpts.proofs.Deciding.{answered_yes, answered_no}
use Rattle.excerpts.proofs.excerpt.Goals as goal
use Rattle.excerpts.proofs.excerpt.Goals.{Else-not-occurs}

found : (c : Else-not-occurs) → Hit c.args.pattern c.args.text.now c.args.row.now
found c = hit _ _ _ (sym c.is_occurrence.ensures ∙ answered_yes c.unwrap_or-occurs.ensures c.if-not-occurs.false)

pub returns-then-not-occurs : goal.returns-then-not-occurs
unfolding excerpt_of excerpt_start
returns-then-not-occurs c =
    let a = c.args in
    let x = is_occurrence a.pattern a.text.now a.row.now in
    let e = rw c.is_occurrence.ensures at c.unwrap_or-occurs.ensures in
    record {
      result_value = sym (answered_no x _ [] e c.if-not-occurs.true);
      ref_ptr_value = simp (answered_no x (at a.row.now 0 - 1) 0 e c.if-not-occurs.true);
    }

pub bounds-row-0 : goal.bounds-row-0
bounds-row-0 c = let a = (found (goal.at.bounds-row-0 c).Else-not-occurs).accepted in omega (arith, a.ready.some, a.size)

pub overflow_sub-start : goal.overflow_sub-start
overflow_sub-start c = omega (arith, hit_first (found (goal.at.overflow_sub-start c).Else-not-occurs))

pub overflow_sub-end : goal.overflow_sub-end
overflow_sub-end c = omega (arith, (found (goal.at.overflow_sub-end c).Else-not-occurs).accepted.ready.some)

pub offset_bounds-row-pattern : goal.offset_bounds-row-pattern
offset_bounds-row-pattern c = omega (arith, (found (goal.at.offset_bounds-row-pattern c).Else-not-occurs).accepted.ready.few)

pub bounds-row-pattern : goal.bounds-row-pattern
bounds-row-pattern c = let a = (found (goal.at.bounds-row-pattern c).Else-not-occurs).accepted in omega (arith, a.ready.some, a.size)

pub slice_bounds-result-count-2 : goal.slice_bounds-result-count-2
slice_bounds-result-count-2 c = let h = found (goal.at.slice_bounds-result-count-2 c).Else-not-occurs in omega (arith, hit_first h, hit_order h)

pub slice_bounds-result-start-2 : goal.slice_bounds-result-start-2
slice_bounds-result-start-2 c = let h = found (goal.at.slice_bounds-result-start-2 c).Else-not-occurs in omega (arith, hit_first h, hit_order h)

pub slice_bounds-result-end-2 : goal.slice_bounds-result-end-2
slice_bounds-result-end-2 c = omega (arith, hit_last (found (goal.at.slice_bounds-result-end-2 c).Else-not-occurs))

pub returns : goal.returns
unfolding excerpt_of excerpt_start
returns c = let y = sym c.is_occurrence.ensures ∙ answered_yes c.unwrap_or-occurs.ensures c.if-not-occurs.false in record { result_value = simp y; ref_ptr_value = simp y }
