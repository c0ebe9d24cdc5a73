-- Two texts with a sentence end between them: each occurrence lies in one of the two, so the tally of the joined text is the sum of theirs,
-- and the column is theirs with a 0 between them.
use Rattle.std.specs.Prelude.{◌≡◌, ℕ, suc, ◌+◌, ◌-◌, ◌<◌, ◌≤◌, List, ◌∷◌, ◌++◌, map, length, nat_eq, Ok}
use Rattle.std.proofs.Math.Decide.{dec_lt, ℕ_discrete}
use Rattle.std.proofs.Common.{arith, sym, ◌∙◌, length-append, ext_get_or, get_or-append-add, ne_eqb}
use Rattle.std.proofs.Math.Path.{ap}
use Rattle.std.proofs.lemmas.List.{length-map}
use Rattle.std.proofs.Math.ListN.{get_or-append}
use Rattle.std.proofs.Math.Seq.{get_or-append_seam}
use Rattle.basics.specs.Laws.Collections.{every_map, map-every, select_none, select-append, select-map}
use Rattle.basics.specs.Laws.Choice.{eqb-shifted}
use Rattle.pattern.specs.declared.Pattern.{Pattern}
use Rattle.pattern.specs.Tests.{input_verdict}
use Rattle.pattern.specs.Accepted.{Accepted as AcceptedPattern}
use Rattle.pattern.specs.Laws.Accepting.{input-accepted}
use Rattle.matching.specs.Occurrence.{plain, at, Occurs}
use Rattle.matching.specs.Occurrences.{occurrences, starting_at}
use Rattle.matching.specs.Joining.{shifted}
use Rattle.matching.proofs.Laws.Enumeration.{occurrences-occur}
use Rattle.matching.proofs.Laws.Joining.{joined-input, joined_texts}
use Rattle.matching.proofs.Laws.Pieces.{at_shifted}
use Rattle.counting.specs.Starts.{starts_at, column}
use Rattle.counting.specs.Halves.{halves}
use Rattle.counting.specs.Joining.{TalliesAdd}
use Rattle.counting.specs.Laws.Halves.{halves-append}
use Rattle.counting.specs.Laws.Starts.{column-length, column_at}
use Rattle.counting.specs.Laws.Nine.{tallied_number}

-- where the joined text passes the tests, its tally is the sum of the two
pub tallies_add : (f : Pattern) (t u : List ℕ) → input_verdict f (length (t ++ 0 ∷ u)) ≡ Ok tt → TalliesAdd f t u
tallies_add f t u e =
    let b = joined-input f t u e in
    record {
      first = length (occurrences f t);
      second = length (occurrences f u);
      of_first = tallied_number f t b.0;
      of_second = tallied_number f u b.1;
      of_joined =
          tallied_number f (t ++ 0 ∷ u) e
          ∙ ap (λ (n : ℕ). Ok n) (joined_texts ((input-accepted f (length (t ++ 0 ∷ u))).0 e).pattern t u).tally;
    }

-- ---- the column

module _ {f : Pattern} (ok : AcceptedPattern f) (t u : List ℕ) where
  abbrev offset : ℕ
  offset = length t + 1

  -- those of the second text, where they stand in the joined one
  abbrev second : List (List ℕ)
  second = map (shifted offset) (occurrences f u)

  at_second : {r : List ℕ} → Occurs f u r → at (shifted offset r) 0 ≡ at r 0 + offset
  at_second {r} O = at_shifted offset r 0 (omega (arith, O.size, ok.some))

  none_past : (p : ℕ) → length t < p → starts_at f t p ≡ 0
  none_past p h =
      ap length (select_none (λ r. nat_eq (at r 0) p)
      (every_map (λ r O. ne_eqb (at r 0) p (λ e. omega (arith, (O.word 0 ok.some).inside))) (occurrences-occur f (plain f t))))

  none_before : (p : ℕ) → p ≤ offset → length (starting_at p second) ≡ 0
  none_before p h =
      ap length (select_none (λ r. nat_eq (at r 0) p)
      (map-every (shifted offset)
      (λ r O. ne_eqb (at (shifted offset r) 0) p (λ e. omega (arith, at_second O, (O.word 0 ok.some).inside)))
      (occurrences-occur f (plain f u))))

  as_alone : (p : ℕ) → length (starting_at (p + offset) second) ≡ starts_at f u p
  as_alone p =
      ap length (select-map (shifted offset) (λ r. nat_eq (at r 0) (p + offset)) (λ r. nat_eq (at r 0) p)
      (every_map (λ r O. ap (λ (a : ℕ). nat_eq a (p + offset)) (at_second O) ∙ eqb-shifted (at r 0) p offset) (occurrences-occur f (plain f u))))
      ∙ length-map (starting_at p (occurrences f u)) (shifted offset)

  -- how many start at a place of the joined text
  starting-joined : (p : ℕ) → starts_at f (t ++ 0 ∷ u) p ≡ starts_at f t p + length (starting_at p second)
  starting-joined p =
      ap (λ (R : List (List ℕ)). length (starting_at p R)) (joined_texts ok t u).all
      ∙ ap length (select-append (λ r. nat_eq (at r 0) p) (occurrences f t) second)
      ∙ length-append (starting_at p (occurrences f t)) (starting_at p second)

  in_first : (p : ℕ) → p ≤ length t → starts_at f (t ++ 0 ∷ u) p ≡ starts_at f t p
  in_first p h = omega (arith, starting-joined p, none_before p (omega arith))

  at_end : starts_at f (t ++ 0 ∷ u) offset ≡ 0
  at_end = omega (arith, starting-joined offset, none_past offset (omega arith), none_before offset (omega arith))

  in_second : (p : ℕ) → starts_at f (t ++ 0 ∷ u) (p + offset) ≡ starts_at f u p
  in_second p = omega (arith, starting-joined (p + offset), none_past (p + offset) (omega arith), as_alone p)

  -- the first text's, a 0, the second's
  pub column-joined : column f (t ++ 0 ∷ u) ≡ column f t ++ 0 ∷ column f u
  column-joined =
      let len-all = column-length f (t ++ 0 ∷ u) ∙ length-append t (0 ∷ u) in
      let len_t = column-length f t in
      let len-u = column-length f u in
      ext_get_or 0 (column f (t ++ 0 ∷ u)) (column f t ++ 0 ∷ column f u) (omega (arith, len-all, len_t, len-u, length-append (column f t) (0 ∷ column f u)))
      (λ i h.
      let here = column_at f (t ++ 0 ∷ u) i (omega (arith, length-append t (0 ∷ u))) in
      elim (dec_lt i (length t)) [
        | yes a ↦ here ∙ in_first (i + 1) (omega arith) ∙ sym (get_or-append (column f t) (0 ∷ column f u) 0 i (omega arith) ∙ column_at f t i a)
        | no a ↦ elim (ℕ_discrete i (length t)) [
          | yes e ↦ here ∙ rw e at_end ∙ sym (rw (len_t ∙ sym e) at (get_or-append_seam (column f t) 0 (column f u) 0))
          | no e ↦
              let k = i - offset in
              let p : i + 1 ≡ k + 1 + offset = omega arith in
              let q : length (column f t) + suc k ≡ i = omega arith in
              let there = rw q at (get_or-append-add (column f t) (0 ∷ column f u) (suc k) 0) in
              here ∙ rw p (in_second (k + 1)) ∙ sym (there ∙ column_at f u k (omega arith))
        ]
      ])

  -- and so in halves, as it is written
  pub halves-joined : halves (column f (t ++ 0 ∷ u)) ≡ halves (column f t) ++ 0 ∷ 0 ∷ halves (column f u)
  unfolding halves
  halves-joined = ap halves column-joined ∙ halves-append (column f t) (0 ∷ column f u)
