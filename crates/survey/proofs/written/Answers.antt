-- `survey::written` leaves out no byte: where it stops short, it has seen that all behind is zero.
use mathlib.Core.Path.{ap, sym, ◌∙◌}
use Rattle.rules.specs.Plain.{zeros}
use Rattle.survey.proofs.Stamps.{survey-rest, behind-zero, behind-all}
use Rattle.survey.proofs.written.Goals as goal

pub returns-then-all_zero-clause-upper_bound : goal.returns-then-all_zero-clause-upper_bound
returns-then-all_zero-clause-upper_bound c =
    let card = c.args.card.now in
    let blank = ap zeros (sym c.from_bucket.ensures.0) ∙ sym c.if-all_zero.ensures in
    (c.guess-b.ensures, survey-rest card.head card.bytes.now c.guess-b.result card.shape blank c.guess-b.ensures)

pub returns-then-all_zero-clause-card_value : goal.returns-then-all_zero-clause-card_value
returns-then-all_zero-clause-card_value c =
    let card = c.args.card.now in
    behind-zero card.head card.bytes.now c.guess-b.result (ap zeros (sym c.from_bucket.ensures.0) ∙ sym c.if-all_zero.ensures)

pub returns-then-b-n-clause-card_value : goal.returns-then-b-n-clause-card_value
returns-then-b-n-clause-card_value c = let card = c.args.card.now in behind-all card.head card.bytes.now card.shape

pub returns-clause-card_value : goal.returns-clause-card_value
returns-clause-card_value c = let card = c.args.card.now in behind-all card.head card.bytes.now card.shape
