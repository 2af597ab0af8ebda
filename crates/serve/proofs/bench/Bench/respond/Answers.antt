-- `serve::bench::Bench::respond` leaves the card that the rules leave, and writes the answer that they give.
use mathlib.Core.Path.{ap}
use Rattle.rules.specs.Calls.{Done, answered}
use Rattle.serve.proofs.bench.Bench.respond.Goals as goal

pub returns-clause-card_after : goal.returns-clause-card_after
unfolding answered
returns-clause-card_after g c = rw c.as_slice.ensures.value at (ap (λ (d : Done). d.card) c.act-done.ensures.answer_after)

pub returns-clause-out_after : goal.returns-clause-out_after
unfolding answered
returns-clause-out_after g c =
    let told = rw c.as_slice.ensures.value at (ap (λ (d : Done). d.answer) c.act-done.ensures.answer_after) in
    rw (← told) (rw (c.as_bytes.ensures.value, c.deref.ensures.0, c.answer_line-answer.ensures) at c.write_all.ensures.bytes)
