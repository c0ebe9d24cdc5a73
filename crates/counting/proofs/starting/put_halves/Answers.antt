-- `counting::starting::put_halves` meets its contract. The invariant: the halves of the first i numbers stand over the start of the list.
use Rattle.std.proofs.Common.{◌≡◌, ℕ, ◌+◌, ◌*◌, ◌/◌, ◌%◌, ◌^◌, ◌<◌, ◌≤◌, List, length, get_or, set, ap, ◌∙◌, arith}
use Rattle.std.proofs.Math.Seq.{paste, take-length}
use Rattle.basics.specs.Written.{over}
use Rattle.basics.specs.Laws.Arrays.{pasted_more}
use Rattle.counting.specs.Halves.{halves}
use Rattle.counting.specs.Laws.Halves.{halves-length, high_at, low_at}
use Rattle.counting.proofs.starting.put_halves.Goals as goal

-- two halves more
halves_more : (N d : List ℕ) (i : ℕ) → i < length N → length N * 2 ≤ length d
    → set (set (paste d 0 (halves N) (i * 2)) (i * 2) (get_or N i 0 / 2 ^ 64)) (i * 2 + 1) (get_or N i 0 % 2 ^ 64) ≡ paste d 0 (halves N) ((i + 1) * 2)
halves_more N d i h room =
    let k = i * 2 in
    let e : k + 1 + 1 ≡ (i + 1) * 2 = omega arith in
    let first = rw (high_at N i) at (pasted_more d (halves N) k (omega arith) (omega (arith, halves-length N))) in
    let second = rw (low_at N i) at (pasted_more d (halves N) (k + 1) (omega arith) (omega (arith, halves-length N))) in
    ap (λ (o : List ℕ). set o (k + 1) (get_or N i 0 % 2 ^ 64)) first ∙ second ∙ ap (paste d 0 (halves N)) e

-- all of them
all_over : (N d : List ℕ) → paste d 0 (halves N) (length N * 2) ≡ over d (halves N)
all_over N d =
    let z : 0 + length N * 2 ≡ length (halves N) = omega (arith, halves-length N) in
    rw (z, ← halves-length N, take-length (halves N))

pub loop-i-preserved : goal.loop-i-preserved
loop-i-preserved c =
    let l = c.loop-i in
    let a = c.args in
    let n = get_or a.numbers.now l.i 0 in
    let stored = ap (λ (x : List ℕ). set (set x (l.i * 2) (n / 2 ^ 64)) (l.i * 2 + 1) (n % 2 ^ 64)) l.invariant in
    rw (c.halves-high.ensures.high, c.halves-high.ensures.low) (stored ∙ halves_more a.numbers.now a.list.now l.i (omega arith) c.requires)

pub returns : goal.returns
returns c =
    let a = c.args in
    let e : c.loop-i.i ≡ length a.numbers.now = omega arith in
    rw e at c.loop-i.invariant ∙ all_over a.numbers.now a.list.now
