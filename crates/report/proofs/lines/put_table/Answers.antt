-- The lines of the entries passed are written.
use Rattle.std.proofs.Common.{◌≡◌, ◌∙◌, sym, ap, arith, length, length-drop, ℕ, Iter}
use Rattle.std.specs.declared.iter.Enumerate.{Enumerate}
use Rattle.std.specs.declared.iter.Zip.{Zip}
use mathlib.Core.Logic.{inl, inr}
use Rattle.report.proofs.Writers.{left_first, left_after, left_within, writes_entries, writes_entry}
use Rattle.report.proofs.lines.put_table.Goals as goal

pub loop-e-init : goal.loop-e-init
loop-e-init c =
    let source = ap (λ (x : Enumerate (Zip (Iter ℕ) (Iter ℕ))). x.iter) c.into_iter-e-iterator.ensures.into_iter_gives ∙ c.enumerate-e-items.ensures.source in
    let none = ap (λ (x : Enumerate (Zip (Iter ℕ) (Iter ℕ))). x.count) c.into_iter-e-iterator.ensures.into_iter_gives ∙ c.enumerate-e-items.ensures.count in
    rw (source, none, c.zip.ensures.first) record {
      written = writes_entries c.args.lists.m c.args.lists.front.now c.args.lists.back.now;
      fronts_left = c.iter.ensures.rest;
      backs_left = c.zip.ensures.second.0;
      within = omega arith;
    }

pub loop-e-preserved : goal.loop-e-preserved
loop-e-preserved c =
    let s = c.in-Some.ensures.steps in
    let v = c.loop-e.invariant in
    let i = c.loop-e.e-iterator.count in
    let f = sym v.fronts_left ∙ s.0.0 in
    let b = sym v.backs_left ∙ s.0.1 in
    let w = rw (s.1, c.from.ensures, c.from-in-loop-e.ensures, left_first c.args.lists.front.now i f, left_first c.args.lists.back.now i b) at c.put_entry-next.ensures in
    let next = s.2 in
    record {
      written = rw next (writes_entry c.args.lists.m c.args.lists.front.now c.args.lists.back.now i v.written w);
      fronts_left = rw next (left_after c.args.lists.front.now i f);
      backs_left = rw next (left_after c.args.lists.back.now i b);
      within = rw next (left_within c.args.lists.front.now i f);
    }

pub returns : goal.returns
returns c =
    let v = c.loop-e.invariant in
    let i = c.loop-e.e-iterator.count in
    let fronts = ap length v.fronts_left ∙ length-drop i c.args.lists.front.now in
    let backs = ap length v.backs_left ∙ length-drop i c.args.lists.back.now in
    let all : i ≡ length c.args.lists.front.now =
    elim c.in-None.ensures.steps.0 [
      | inl p ↦ omega (arith, p.1.0, fronts, v.within)
      | inr p ↦ omega (arith, p.1.0, backs, v.within, c.requires.1)
    ] in
    rw all at v.written
