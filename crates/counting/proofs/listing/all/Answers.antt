-- `counting::listing::all` meets its contract: the list is too short exactly where it has room for fewer rows than there are.
use Rattle.std.proofs.Common.{◌≡◌, ◌*◌, ◌≤◌, Ok, length, sym, ◌∙◌}
use Rattle.pattern.specs.Tests.{input_verdict}
use Rattle.matching.specs.Occurrence.{plain}
use Rattle.matching.specs.Occurrences.{occurrences}
use Rattle.counting.specs.Steps.Inputs.{Input}
use Rattle.counting.specs.Laws.Inputs.{passed}
use Rattle.counting.specs.Steps.Listings.{Put}
use Rattle.counting.proofs.Parting.{slots_of}
use Rattle.counting.proofs.Answers.{all_short, all_fine, all_over, all_room}
use Rattle.counting.proofs.listing.all.Goals as goal
use Rattle.counting.proofs.listing.all.Goals.{In_ok-check_with, After-of-tables, After-count-total}

-- ---- what is known once the tests up to 6 have passed

accepted : (c : In_ok-check_with) → input_verdict c.args.pattern (length c.args.text.now) ≡ Ok tt
accepted c = sym c.check_with.ensures ∙ c.in_ok-check_with.was

ok : (c : In_ok-check_with) → Input c.args.pattern (plain c.args.pattern c.args.text.now)
ok c = passed c.args.text.now (accepted c)

number : (c : After-count-total) → c.count-total.result ≡ length (occurrences c.args.pattern c.args.text.now)
number c = let p = c.of-tables.ensures in rw (p.pattern, p.view) at (c.count-total.ensures p.plan)

-- there is room for all of them
abbrev put : (d : After-of-tables) → length (occurrences d.args.pattern d.args.text.now) * d.args.pattern.count ≤ length d.args.list.now
    → Put d.of-tables.result (length d.args.list.now)
put d room = let p = d.of-tables.ensures in record { plan = p.plan; room = rw (p.pattern, p.view, slots_of p) room }

-- ---- what is asked

pub of-tables-requires : goal.of-tables-requires
of-tables-requires c = ok (goal.at.of-tables-requires c).In_ok-check_with

pub count-total-requires : goal.count-total-requires
count-total-requires c = c.of-tables.ensures.plan

pub nonzero_div-room : goal.nonzero_div-room
nonzero_div-room c = (ok (goal.at.nonzero_div-room c).In_ok-check_with).pattern.some

pub returns-then-room-total : goal.returns-then-room-total
returns-then-room-total c =
    let at = goal.at.returns-then-room-total c in
    let a = c.args in
    let some = (ok at.In_ok-check_with).pattern.some in
    let b = all_short a.pattern a.text.now a.list.now (accepted at.In_ok-check_with) (all_over a.pattern a.text.now a.list.now some (number at.After-count-total) c.if-room-total.true) in
    record { value = b.0; list_after = b.1 }

pub put_all-requires : goal.put_all-requires
put_all-requires c =
    let at = goal.at.put_all-requires c in
    let a = c.args in
    put at.After-of-tables (all_room a.pattern a.text.now a.list.now (ok at.In_ok-check_with).pattern.some (number at.After-count-total) c.if-room-total.false)

pub returns : goal.returns
returns c =
    let at = goal.at.returns c in
    let a = c.args in
    let n = number at.After-count-total in
    let room = all_room a.pattern a.text.now a.list.now (ok at.In_ok-check_with).pattern.some n c.if-room-total.false in
    let p = c.of-tables.ensures in
    let b = all_fine a.pattern a.text.now a.list.now (accepted at.In_ok-check_with) room n
    (rw (p.pattern, p.view, slots_of p) at (c.put_all.ensures (put at.After-of-tables room))) in
    record { value = b.0; list_after = b.1 }
