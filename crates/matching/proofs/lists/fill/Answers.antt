-- `fill` meets its contract: the tests' verdict decides, then the room; as many rows as words always fit.
use Rattle.std.proofs.Common.{◌≡◌, length, sym, ◌∙◌, arith, Ok}
use Rattle.pattern.specs.Tests.{input_verdict}
use Rattle.matching.specs.Steps.Settling.{Ready}
use Rattle.matching.proofs.Laws.Ready.{ready}
use Rattle.matching.proofs.Writing.{products_fit}
use Rattle.matching.proofs.Listing.{room_always, room_counted, faces_ready, none_stored, all_stored}
use Rattle.matching.proofs.lists.fill.Goals as goal
use Rattle.matching.proofs.lists.fill.Goals.{In_ok-check_with}

-- the tests are passed
verdict_is : (c : In_ok-check_with) → input_verdict c.args.pattern (length c.args.text.now) ≡ Ok tt
verdict_is c = sym c.check_with.ensures ∙ c.in_ok-check_with.was

ok : (c : In_ok-check_with) → Ready c.args.pattern (length c.args.text.now)
ok c = ready c.args.pattern (length c.args.text.now) (verdict_is c)

pub faced-faced-requires : goal.faced-faced-requires
faced-faced-requires c = let ready = ok (goal.at.faced-faced-requires c).In_ok-check_with in (ready.some, ready.few)

pub overflow_mul-n : goal.overflow_mul-n
overflow_mul-n c = let ready = ok (goal.at.overflow_mul-n c).In_ok-check_with in omega (arith, products_fit ready.short ready.few)

pub invariant_of-side : goal.invariant_of-side
invariant_of-side c = record { ready = faces_ready (ok (goal.at.invariant_of-side c).In_ok-check_with) c.args.mirrored c.faced-faced.ensures }

pub store-requires : goal.store-requires
store-requires c = room_always c.args.text.now c.faced-faced.ensures c.args.list.now c.if-n-m.true

pub returns-then-n-m : goal.returns-then-n-m
returns-then-n-m c =
    let a = c.args in
    let d = (goal.at.returns-then-n-m c).In_ok-check_with in
    let room = room_always a.text.now c.faced-faced.ensures a.list.now c.if-n-m.true in
    let both = all_stored a.mirrored a.text.now a.list.now (ok d) c.faced-faced.ensures (verdict_is d) room c.store.ensures.value c.store.ensures.list_after in
    record { value = both.0; list_after = both.1 }

pub invariant_of-side-2 : goal.invariant_of-side-2
invariant_of-side-2 c = record { ready = faces_ready (ok (goal.at.invariant_of-side-2 c).In_ok-check_with) c.args.mirrored c.faced-faced.ensures }

pub overflow_mul-rows : goal.overflow_mul-rows
overflow_mul-rows c = omega (arith, products_fit c.count_rows-rows.ensures.1 (ok (goal.at.overflow_mul-rows c).In_ok-check_with).few)

pub returns-then-list-rows : goal.returns-then-list-rows
returns-then-list-rows c =
    let a = c.args in
    let d = (goal.at.returns-then-list-rows c).In_ok-check_with in
    let both = none_stored a.mirrored a.text.now a.list.now (ok d) c.faced-faced.ensures (verdict_is d) c.count_rows-rows.ensures.0 c.if-list-rows.true in
    record { value = both.0; list_after = both.1 }

pub store-requires-2 : goal.store-requires-2
store-requires-2 c = room_counted c.args.text.now c.faced-faced.ensures c.args.list.now c.count_rows-rows.ensures.0 c.if-list-rows.false

pub returns : goal.returns
returns c =
    let a = c.args in
    let d = (goal.at.returns c).In_ok-check_with in
    let room = room_counted a.text.now c.faced-faced.ensures a.list.now c.count_rows-rows.ensures.0 c.if-list-rows.false in
    let both = all_stored a.mirrored a.text.now a.list.now (ok d) c.faced-faced.ensures (verdict_is d) room c.store-2.ensures.value c.store-2.ensures.list_after in
    record { value = both.0; list_after = both.1 }
