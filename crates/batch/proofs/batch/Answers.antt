-- `batch::batch` equals the rule for every card and all lent bytes.
use mathlib.Core.Path.{sym, ap, ◌∙◌}
use lib.ListN.{length}
use Rattle.rules.specs.Batch.{Batch, paired}
use Rattle.batch.proofs.Carries.{unpaired, one_by_one, whole, card-none, answers-none}
use Rattle.batch.proofs.batch.Goals as goal

pub returns-then-not-is_paired-clause-value : goal.returns-then-not-is_paired-clause-value
unfolding paired
returns-then-not-is_paired-clause-value c = let a = c.args in sym (ap (λ (b : Batch). b.code) (unpaired a.card.now a.requests.now a.answers.now (sym c.if-not-is_paired.ensures)))

pub returns-then-not-is_paired-clause-card_after : goal.returns-then-not-is_paired-clause-card_after
unfolding paired
returns-then-not-is_paired-clause-card_after c = let a = c.args in sym (ap (λ (b : Batch). b.card) (unpaired a.card.now a.requests.now a.answers.now (sym c.if-not-is_paired.ensures)))

pub returns-then-not-is_paired-clause-answers_after : goal.returns-then-not-is_paired-clause-answers_after
unfolding paired
returns-then-not-is_paired-clause-answers_after c = let a = c.args in sym (ap (λ (b : Batch). b.answers) (unpaired a.card.now a.requests.now a.answers.now (sym c.if-not-is_paired.ensures)))

pub returns-in-Err-clause-value : goal.returns-in-Err-clause-value
unfolding paired
returns-in-Err-clause-value c = let a = c.args in sym (ap (λ (b : Batch). b.code) (one_by_one a.card.now a.requests.now a.answers.now (sym c.if-not-is_paired.ensures)))

pub returns-in-Err-clause-card_after : goal.returns-in-Err-clause-card_after
unfolding paired
returns-in-Err-clause-card_after c =
    let a = c.args in
    sym (ap (λ (b : Batch). b.card) (one_by_one a.card.now a.requests.now a.answers.now (sym c.if-not-is_paired.ensures)) ∙ card-none a.card.now a.requests.now 0 (length a.answers.now) c.in-Err.ensures.1)

pub returns-in-Err-clause-answers_after : goal.returns-in-Err-clause-answers_after
unfolding paired
returns-in-Err-clause-answers_after c =
    let a = c.args in
    rw c.in-Err.ensures.0 at c.fill.ensures.after (λ y is. is)
    ∙ sym (ap (λ (b : Batch). b.answers) (one_by_one a.card.now a.requests.now a.answers.now (sym c.if-not-is_paired.ensures)) ∙ answers-none a.card.now a.requests.now 0 (length a.answers.now) c.in-Err.ensures.1)

pub answer_all-requires : goal.answer_all-requires
unfolding paired
answer_all-requires c = let a = c.args in (c.in-Ok.ensures.0, whole a.card.now a.requests.now a.answers.now (sym c.if-not-is_paired.ensures))

pub returns-clause-value : goal.returns-clause-value
unfolding paired
returns-clause-value c = let a = c.args in sym (ap (λ (b : Batch). b.code) (one_by_one a.card.now a.requests.now a.answers.now (sym c.if-not-is_paired.ensures)))

pub returns-clause-card_after : goal.returns-clause-card_after
unfolding paired
returns-clause-card_after c =
    let a = c.args in
    c.answer_all.ensures.card_after ∙ sym (ap (λ (b : Batch). b.card) (one_by_one a.card.now a.requests.now a.answers.now (sym c.if-not-is_paired.ensures)))

pub returns-clause-answers_after : goal.returns-clause-answers_after
unfolding paired
returns-clause-answers_after c =
    let a = c.args in
    c.answer_all.ensures.answers_after ∙ sym (ap (λ (b : Batch). b.answers) (one_by_one a.card.now a.requests.now a.answers.now (sym c.if-not-is_paired.ensures)))
