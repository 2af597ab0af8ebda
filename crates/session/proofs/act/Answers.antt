-- `session::act` does what the rules say of a line.
use mathlib.Core.Path.{◌≡◌, ap, ◌∙◌}
use mathlib.Core.List.{[]}
use native.Mathlib.Omega.{arith}
use lib.ListN.{take}
use lib.Seq.{length-take-le}
use Rattle.rules.specs.Calls.{answered, called}
use Rattle.rules.specs.Bench.{bench_call, bench_done, bench_line}
use Rattle.line.specs.Requests.{call_of}
use Rattle.session.proofs.Lines.{no-format, card-there}
use Rattle.session.proofs.act.Goals as goal
use Rattle.session.proofs.act.Goals.{in_default-request-via-in-Format+else-len-eq0, in_default-request-via-in_default-request}

pub returns-in_default-clause-answer_after : goal.returns-in_default-clause-answer_after
unfolding bench_line bench_done
returns-in_default-clause-answer_after c =
    let card = take c.args.len c.args.card.now in
    ap (answered card) c.from.ensures ∙ ap (bench_done card) c.in_default.ensures

pub returns-in-Format-clause-answer_after : goal.returns-in-Format-clause-answer_after
unfolding bench_line bench_done bench_call
returns-in-Format-clause-answer_after c =
    let asks = rw c.in-Format.is at c.in-Some.ensures in
    c.first_format.ensures.answer_after ∙ rw c.if-len-eq0.true (ap (bench_done []) asks)

pub returns-in_default-request-clause-answer_after : goal.returns-in_default-request-clause-answer_after
unfolding bench_line bench_done
returns-in_default-request-clause-answer_after c =
    let a = c.args in
    let card = take a.len a.card.now in
    let same : called card (call_of c.in_default-request.request) ≡ bench_line card a.line.now =
    elim c.in_default-request.branch [
      | in_default-request-via-in-Format+else-len-eq0 w ↦
          let whole = length-take-le a.len a.card.now (omega (arith, c.requires.inside, c.requires.long)) in
          rw w.request-is (card-there card _ (omega (arith, whole, w.if-len-eq0.false)) ∙ ap (bench_done card) (rw w.in-Format.is at c.in-Some.ensures))
      | in_default-request-via-in_default-request w ↦
          rw w.request-is (no-format card _ w.in_default-request.not-Format ∙ ap (bench_done card) c.in-Some.ensures)
    ] in
    c.act_on.ensures.answer_after ∙ same
