-- `session::first_format` makes the card that the rules make, in a buffer that holds none.
use mathlib.Core.Path.{refl, ap, ◌∙◌}
use native.Mathlib.Omega.{arith}
use mathlib.Core.List.{[]}
use Rattle.rules.specs.Calls.{answered}
use Rattle.session.proofs.Firsts.{first-large, card-made, card-unmade}
use Rattle.session.proofs.first_format.Goals as goal

pub returns-then-too_long-clause-answer_after : goal.returns-then-too_long-clause-answer_after
returns-then-too_long-clause-answer_after c =
    let a = c.args in
    ap (answered []) c.from.ensures ∙ first-large a.buckets a.sectors a.td a.ti (omega (arith, c.if-too_long.true))

pub returns-then-answer-eq0 : goal.returns-then-answer-eq0
returns-then-answer-eq0 c =
    let f = c.format-answer in
    let made = card-made _ _ _ _ refl c.if-too_long.false c.requires f.auto.card f.ensures.value f.ensures.card_after c.if-answer-eq0.true in
    record { room = made.0; answer_after = made.1 }

pub returns-else-answer-eq0 : goal.returns-else-answer-eq0
returns-else-answer-eq0 c =
    let f = c.format-answer in
    let unmade = card-unmade _ _ _ _ refl c.if-too_long.false c.requires f.auto.card f.ensures.value f.ensures.card_after c.if-answer-eq0.false in
    record { room = unmade.0; answer_after = unmade.1 }
