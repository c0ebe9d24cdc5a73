-- What several reads put into the list, one after the other, is what the reader has lost.
use Rattle.std.proofs.Common.{◌≡◌, ℕ, ◌+◌, ◌≤◌, List, ◌++◌, length, take, Option, sym, ap, ◌∙◌, ◌-◌, subst, length-take-le, rules}
use Rattle.std.proofs.Math.Seq.{take-append-add}
use Rattle.std.proofs.lemmas.List.{take-append-le}
use Rattle.std.proofs.KnownBytes.{Consumes-trans}
use Rattle.std.specs.Io.KnownBytes.{Consumes}
use borrow.Rule.Slice.PartMut.{put_mid, post_of}
use Rattle.bedbloomer.proofs.read_all.Goals as goal

-- a read more, into the part of the list that begins where the earlier ones ended
read_more : (a b c : Option (List ℕ)) (xs ys : List ℕ) (done k more : ℕ) → done ≤ length xs → more ≤ length ys
    → Consumes a b (take done xs) → Consumes b c (take more ys) → Consumes a c (take (done + more) (put_mid done k xs ys))
read_more a b c xs ys done k more inside few first second =
    let after : List ℕ = post_of done k xs in
    let front : length (take done xs) ≡ done = length-take-le done xs inside in
    let all : take (done + more) (put_mid done k xs ys) ≡ take done xs ++ take more ys =
    ap (λ (n : ℕ). take (n + more) (put_mid done k xs ys)) (sym front)
    ∙ take-append-add (take done xs) (ys ++ after) more
    ∙ ap (λ (l : List ℕ). take done xs ++ l) (take-append-le more ys after few) in
    subst (Consumes a c) (sym all) (Consumes-trans a b c (take done xs) (take more ys) first second)

pub loop-done-preserved : goal.loop-done-preserved
loop-done-preserved g c =
    let more = c.in_ok-more in
    record {
      within = search rules;
      consumed =
          read_more
          _
          _
          _
          c.loop-done.list
          c.read.new.buf
          c.loop-done.done
          (length c.loop-done.list - c.loop-done.done)
          more.more
          c.loop-done.invariant.within
          more.ensures.bound.0
          c.loop-done.invariant.consumed
          more.ensures.bytes.0;
    }
