-- `counting::reach::reach_on` meets its contract. The invariant: the entries are done from i on, and the next slot's are as they were.
use Rattle.std.proofs.Common.{◌≡◌, ◌-◌, min, ◌+◌, ◌<◌, length, arith}
use Rattle.counting.proofs.Reaching.{both_hold, too_far, not_fit, reach_here, reach_later, lead}
use Rattle.counting.proofs.reach.reach_on.Goals as goal
use Rattle.counting.proofs.reach.reach_on.Goals.{then-fits-k-eq1+then-from-k, else-fits-k-eq1, else-fits-k-eq1-via-then-fits-k-eq1+else-from-k, else-fits-k-eq1-via-else-fits-k-eq1}
use Rattle.counting.proofs.reach.reach_on.Goals.{then-fits-i-eq1+then-from-i, else-fits-i-eq1, else-fits-i-eq1-via-then-fits-i-eq1+else-from-i, else-fits-i-eq1-via-else-fits-i-eq1}

pub loop-k-preserved : goal.loop-k-preserved
loop-k-preserved c =
    let a = c.args in
    let k = c.loop-k.k in
    let s = c.loop-k.invariant.reaching in
    let pos : 0 < k = omega (arith, c.loop-k-test.true) in
    let room : a.base + length a.fits.now < length a.next.now = omega (arith, c.requires.2, c.requires.4) in
    let b = lead a.fits.now a.low a.high a.m s c.requires.2 in
    let e : a.base + 20001 + a.m ≡ a.base + 20001 + min (k - 1 + a.low + 1) a.m = omega (arith, c.min-inner.ensures, c.saturating_sub.ensures, c.loop-k-test.true, c.loop-k.auto.k) in
    record {
      past = omega (arith, c.loop-k-test.true);
      reaching = elim c.if-fits-k-eq1.branch [
        | then-fits-k-eq1+then-from-k w ↦
            let h = rw (w.from.ensures, e) at w.if-from-k.true in
            rw w.q-is (reach_here s pos room b (both_hold w.if-fits-k-eq1.true h))
        | else-fits-k-eq1 w ↦ rw w.q-is (elim w.else-fits-k-eq1.branch [
          | else-fits-k-eq1-via-then-fits-k-eq1+else-from-k v ↦
              let h = rw (v.from.ensures, e) at v.if-from-k.false in
              reach_later s pos room b (too_far v.if-fits-k-eq1.true h)
          | else-fits-k-eq1-via-else-fits-k-eq1 v ↦ reach_later s pos room b (not_fit _ _ _ v.if-fits-k-eq1.false)
        ])
      ];
    }

pub loop-i-preserved : goal.loop-i-preserved
loop-i-preserved c =
    let a = c.args in
    let i = c.loop-i.i in
    let s = c.loop-i.invariant in
    let pos : 0 < i = omega (arith, c.loop-i-test.true) in
    let room : a.base + length a.fits.now < length a.next.now = omega (arith, c.requires.2, c.requires.4) in
    let b = lead a.fits.now a.low a.high a.m s c.requires.2 in
    let e : a.base + 20001 + (i - 1) + a.low + 1 ≡ a.base + 20001 + min (i - 1 + a.low + 1) a.m = omega (arith, c.min-inner.ensures, c.saturating_sub.ensures, c.loop-i-test.true, c.loop-i.auto.i) in
    elim c.if-fits-i-eq1.branch [
      | then-fits-i-eq1+then-from-i w ↦
          let h = rw (w.from-then-fits-i-eq1.ensures, e) at w.if-from-i.true in
          rw w.q-is (reach_here s pos room b (both_hold w.if-fits-i-eq1.true h))
      | else-fits-i-eq1 w ↦ rw w.q-is (elim w.else-fits-i-eq1.branch [
        | else-fits-i-eq1-via-then-fits-i-eq1+else-from-i v ↦
            let h = rw (v.from-then-fits-i-eq1.ensures, e) at v.if-from-i.false in
            reach_later s pos room b (too_far v.if-fits-i-eq1.true h)
        | else-fits-i-eq1-via-else-fits-i-eq1 v ↦ reach_later s pos room b (not_fit _ _ _ v.if-fits-i-eq1.false)
      ])
    ]
