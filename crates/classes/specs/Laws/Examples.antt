-- Bytes, and what they are read as or refused for.
use Rattle.std.specs.Prelude.{refl, [], ◌∷◌}
use Rattle.std.proofs.Math.Bridge.{le_by_compare, IsLe}
use Rattle.classes.specs.Trees.{letter, negation, both, either}
use Rattle.classes.specs.Grammar.{Grammar, alternative}
use Rattle.classes.specs.Judgements.{Judged, not_expression, too_deep, read_as, ungrammatical, nested, accepted}
use Rattle.classes.specs.Steps.Reader.{step, ending}
use Rattle.classes.specs.Laws.Sound.{sound}
use Rattle.classes.specs.Laws.Judging.{unread}

-- `a|b&c`
pub and_first : Grammar alternative (97 ∷ 124 ∷ 98 ∷ 38 ∷ 99 ∷ []) (either (letter 0) (both (letter 1) (letter 2))) 0
unfolding ending step
and_first = sound refl

-- `a&b|c`
pub and_left : Grammar alternative (97 ∷ 38 ∷ 98 ∷ 124 ∷ 99 ∷ []) (either (both (letter 0) (letter 1)) (letter 2)) 0
unfolding ending step
and_left = sound refl

-- `a&b&c`
pub and_row : Grammar alternative (97 ∷ 38 ∷ 98 ∷ 38 ∷ 99 ∷ []) (both (both (letter 0) (letter 1)) (letter 2)) 0
unfolding ending step
and_row = sound refl

-- `a|b|c`
pub or_row : Grammar alternative (97 ∷ 124 ∷ 98 ∷ 124 ∷ 99 ∷ []) (either (either (letter 0) (letter 1)) (letter 2)) 0
unfolding ending step
or_row = sound refl

-- `!!a&h`
pub not_first : Grammar alternative (33 ∷ 33 ∷ 97 ∷ 38 ∷ 104 ∷ []) (both (negation (negation (letter 0))) (letter 7)) 0
unfolding ending step
not_first = sound refl

-- `!(a|b)&c`
pub brackets_first : Grammar alternative (33 ∷ 40 ∷ 97 ∷ 124 ∷ 98 ∷ 41 ∷ 38 ∷ 99 ∷ []) (both (negation (either (letter 0) (letter 1))) (letter 2)) 1
unfolding ending step
brackets_first = sound refl

-- `((((((((a))))))))`, 8 deep
pub eight_deep : Judged (40 ∷ 40 ∷ 40 ∷ 40 ∷ 40 ∷ 40 ∷ 40 ∷ 40 ∷ 97 ∷ 41 ∷ 41 ∷ 41 ∷ 41 ∷ 41 ∷ 41 ∷ 41 ∷ 41 ∷ []) (read_as (letter 0))
unfolding ending step IsLe
eight_deep = accepted (le_by_compare 17 200 tt) (sound refl) (le_by_compare 8 8 tt)

-- `(((((((((a)))))))))`, 9 deep
pub nine_deep : Judged (40 ∷ 40 ∷ 40 ∷ 40 ∷ 40 ∷ 40 ∷ 40 ∷ 40 ∷ 40 ∷ 97 ∷ 41 ∷ 41 ∷ 41 ∷ 41 ∷ 41 ∷ 41 ∷ 41 ∷ 41 ∷ 41 ∷ []) too_deep
unfolding ending step IsLe
nine_deep = nested (le_by_compare 19 200 tt) (sound refl) (le_by_compare 9 9 tt)

-- `((a))|(b)`: brackets side by side do not add up
pub side_by_side : Grammar alternative (40 ∷ 40 ∷ 97 ∷ 41 ∷ 41 ∷ 124 ∷ 40 ∷ 98 ∷ 41 ∷ []) (either (letter 0) (letter 1)) 2
unfolding ending step
side_by_side = sound refl

-- 9 deep and one bracket too few: not of the grammar
pub deep_and_wrong : Judged (40 ∷ 40 ∷ 40 ∷ 40 ∷ 40 ∷ 40 ∷ 40 ∷ 40 ∷ 40 ∷ 97 ∷ 41 ∷ 41 ∷ 41 ∷ 41 ∷ 41 ∷ 41 ∷ 41 ∷ 41 ∷ []) not_expression
unfolding ending step
deep_and_wrong = ungrammatical (unread refl)

-- no bytes, `a&`, `ab`, `()`, `i`
pub empty_wrong : Judged [] not_expression
unfolding ending step
empty_wrong = ungrammatical (unread refl)

pub end_wrong : Judged (97 ∷ 38 ∷ []) not_expression
unfolding ending step
end_wrong = ungrammatical (unread refl)

pub letters-wrong : Judged (97 ∷ 98 ∷ []) not_expression
unfolding ending step
letters-wrong = ungrammatical (unread refl)

pub brackets-wrong : Judged (40 ∷ 41 ∷ []) not_expression
unfolding ending step
brackets-wrong = ungrammatical (unread refl)

pub letter-wrong : Judged (105 ∷ []) not_expression
unfolding ending step
letter-wrong = ungrammatical (unread refl)
