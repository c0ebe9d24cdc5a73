-- `settle` meets its contract. The invariant: the slots of the last `calm` visits ask no more; a raise leaves less to raise.
use Rattle.std.proofs.Common.{refl, arith}
use Rattle.matching.proofs.Raising.{none, less, placed}
use Rattle.matching.proofs.Settling.{calm_begin, calm_same, calm_raise, all_calm, settled, unsettled}
use Rattle.matching.proofs.side.Side.settle.Goals as goal
use Rattle.matching.proofs.side.Side.settle.Goals.{then-q-p, else-q-p}

pub loop-calm-init : goal.loop-calm-init
loop-calm-init c = calm_begin _ (omega arith) c.args.self.now.ready.some

pub visit-q-requires : goal.visit-q-requires
visit-q-requires c = let s = c.loop-calm.invariant in (s.slot, placed s.rising c.requires c.loop-calm.j s.slot)

pub returns-then-side-q : goal.returns-then-side-q
returns-then-side-q c = let s = c.loop-calm.invariant in unsettled refl (none s.rising c.visit-q.ensures s.slot (omega arith))

pub loop-calm-smaller : goal.loop-calm-smaller
loop-calm-smaller c = elim c.if-q-p.branch [
  | then-q-p w ↦ rw (w.p-is, w.calm-is) (omega (arith, c.loop-calm-test.true))
  | else-q-p w ↦
      let s = c.loop-calm.invariant in
      let raised = less s.rising c.visit-q.ensures s.slot c.args.self.now.ready (omega arith) (λ e. w.if-q-p.false e) in
      rw (w.p-is, w.calm-is) (omega (arith, c.args.self.now.ready.few, c.loop-calm-test.true, raised))
]

pub loop-calm-preserved : goal.loop-calm-preserved
loop-calm-preserved c = elim c.if-q-p.branch [
  | then-q-p w ↦ rw (w.p-is, w.calm-is) (calm_same c.loop-calm.invariant c.next-j.ensures c.visit-q.ensures (omega arith) c.loop-calm-test.true w.if-q-p.true)
  | else-q-p w ↦ rw (w.p-is, w.calm-is) (calm_raise c.loop-calm.invariant c.next-j.ensures c.visit-q.ensures (omega arith) c.args.self.now.ready.few)
]

pub returns : goal.returns
returns c = let s = c.loop-calm.invariant in settled (λ x. refl) c.args.self.now.ready c.requires s.rising (all_calm s c.loop-calm-test.false)
