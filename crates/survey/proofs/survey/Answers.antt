-- `survey::survey`: what the buckets before the blank end have is what all have.
use mathlib.Core.Path.{ap, sym, ◌∙◌}
use Rattle.rules.specs.Write.{stamp_on}
use Rattle.survey.specs.declared.Area.{Area}
use Rattle.survey.specs.Survey.{survey_of}
use Rattle.survey.proofs.survey.Goals as goal

pub returns : goal.returns
unfolding survey_of stamp_on
returns c =
    let all = sym c.written-last.ensures.upper_bound.1 in
    (c.largest.ensures ∙ ap (λ (s : Area). s.stamp) all, c.highest.ensures ∙ ap (λ (s : Area). s.used) all)
