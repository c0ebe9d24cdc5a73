-- The invariant: the first words are written, and those left are the words of the rest.
use Rattle.std.proofs.Common.{◌≡◌, ◌<◌, ◌≢◌, length, refl, sym, ◌∙◌, below_more, ext_get_or, get_or-set_other, get_or-set_same, length-take, arith}
use Rattle.std.proofs.lemmas.List.{length-map}
use Rattle.format.specs.Bytes.{decimal, ended, is_number, lines}
use Rattle.format.specs.Steps.ValueLines.{word_lines}
use Rattle.format.proofs.ByteSteps.{value_is}
use Rattle.format.proofs.LineSteps.{left, none_left, scan-count, stepped, values, values_next}
use Rattle.format.proofs.texts.write_words.Goals as goal

pub loop-word-init : goal.loop-word-init
unfolding word_lines
loop-word-init c = record { right = c.requires.0; others = refl; written = λ k h. absurd (omega arith) }

pub returns-in_default : goal.returns-in_default
returns-in_default c =
    let e = none_left c.in_default.ensures is_number c.loop-word.word-index c.args.m c.loop-word.invariant.right in
    absurd (omega (arith, length-take c.args.m c.args.out.now))

pub loop-word-preserved : goal.loop-word-preserved
loop-word-preserved c =
    let i = c.loop-word.invariant in
    let n = c.loop-word.word-index in
    let h : n < length c.loop-word.word-items = omega (arith, c.loop-word.auto.word-items) in
    let t = stepped c.in-Some.ensures is_number n c.args.m i.right in
    let q = left (values c.args.s.now) (values c.in-Some.others.now) n c.value.result (i.others ∙ values_next c.in-Some.ensures c.value.result (c.value.ensures ∙ value_is _ t.good)) in
    record {
      right = t.rest;
      others = q.others;
      written = below_more _ _ (λ k l. let ne : k ≢ n = omega arith in rw get_or-set_other (i.written k l)) (rw get_or-set_same (sym q.this));
    }

pub returns : goal.returns
unfolding word_lines
returns c =
    let i = c.loop-word.invariant in
    let ws = values c.args.s.now in
    let m : c.args.m ≡ length ws = omega (arith, scan-count (lines c.args.s.now) is_number (ended c.args.s.now 10) 0 c.args.m c.requires.0, length-map (lines c.args.s.now) decimal) in
    let l : length c.loop-word.word-items ≡ c.args.m = omega (arith, c.loop-word.auto.word-items, length-take c.args.m c.args.out.now) in
    let e : c.loop-word.word-items ≡ ws = ext_get_or 0 c.loop-word.word-items ws (l ∙ m) (λ k h. i.written k (omega (arith, length-take c.args.m c.args.out.now))) in
    rw (e, m)
