-- `survey::survey_for`: what the buckets before the blank end have is what all have.
use mathlib.Core.Path.{ap, sym, ◌∙◌}
use lib.Dec.{leb}
use Rattle.rules.specs.Write.{stamp_on}
use Rattle.survey.specs.declared.Area.{Area}
use Rattle.survey.specs.Survey.{survey_of}
use Rattle.survey.proofs.survey_for.Goals as goal

pub returns-then-too_late : goal.returns-then-too_late
unfolding survey_of stamp_on
returns-then-too_late c =
    let all = c.written-last.ensures.upper_bound.1 in
    (ap (λ (s : Area). leb c.args.at s.stamp) all ∙ sym c.if-too_late.ensures, c.highest-used.ensures ∙ ap (λ (s : Area). s.used) (sym all))

pub returns : goal.returns
unfolding survey_of stamp_on
returns c =
    let all = c.written-last.ensures.upper_bound.1 in
    (ap (λ (s : Area). leb c.args.at s.stamp) all ∙ sym c.if-too_late.ensures, c.highest-used.ensures ∙ ap (λ (s : Area). s.used) (sym all))
