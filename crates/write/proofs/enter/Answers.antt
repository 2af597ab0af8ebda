-- `write::enter` follows the rule's plan for an entry.
use mathlib.Core.Path.{ap, sym, ◌∙◌}
use Rattle.rules.specs.declared.refusal.Refusal.{Refusal}
use Rattle.rules.specs.Answers.{refused}
use Rattle.rules.specs.Refusals.{number}
use Rattle.rules.specs.Write.{plan_answer, plan_card}
use Rattle.write.proofs.Codes.{no-head, accepted, refused-by}
use Rattle.write.proofs.enter.Goals as goal

pub returns-in-Err-clause-value : goal.returns-in-Err-clause-value
unfolding plan_answer
returns-in-Err-clause-value c =
    c.from.ensures ∙ ap (λ (r : Refusal). refused (number r)) c.in-Err.ensures.0 ∙ ap plan_answer (sym (no-head c.args.card.now c.args.e c.in-Err.ensures.1))

pub returns-in-Err-clause-card_after : goal.returns-in-Err-clause-card_after
unfolding plan_card
returns-in-Err-clause-card_after c = ap (plan_card c.args.card.now) (sym (no-head c.args.card.now c.args.e c.in-Err.ensures.1))

pub returns-in-Ok-enter_on-clause-value : goal.returns-in-Ok-enter_on-clause-value
returns-in-Ok-enter_on-clause-value c =
    c.end.ensures ∙ (accepted c.in-Ok.before.head c.args.card.now c.enter_on.new.card _ c.in-Ok-enter_on.field-0 c.in-Ok-enter_on.ensures).0

pub returns-in-Ok-enter_on-clause-card_after : goal.returns-in-Ok-enter_on-clause-card_after
returns-in-Ok-enter_on-clause-card_after c =
    (accepted c.in-Ok.before.head c.args.card.now c.enter_on.new.card _ c.in-Ok-enter_on.field-0 c.in-Ok-enter_on.ensures).1

pub returns-in-Err-enter_on-clause-value : goal.returns-in-Err-enter_on-clause-value
returns-in-Err-enter_on-clause-value c =
    c.from-in-Err-enter_on.ensures ∙ (refused-by c.in-Ok.before.head c.args.card.now c.enter_on.new.card _ _ c.in-Err-enter_on.ensures).0

pub returns-in-Err-enter_on-clause-card_after : goal.returns-in-Err-enter_on-clause-card_after
returns-in-Err-enter_on-clause-card_after c =
    (refused-by c.in-Ok.before.head c.args.card.now c.enter_on.new.card _ _ c.in-Err-enter_on.ensures).1
