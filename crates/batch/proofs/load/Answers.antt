-- `batch::load` answers the requests one after the other. What is left of them, on the card as it is, gives what the whole gives.
use mathlib.Core.Path.{◌≡◌, refl, ap, sym, ◌∙◌}
use mathlib.Core.List.{List, ◌++◌}
use Prim.Native.Nat.{ℕ, ◌<◌}
use native.Mathlib.Omega.{arith}
use lib.ListN.{length, take}
use Rattle.rules.specs.Sector.{sector_at}
use Rattle.rules.specs.Write.{plan_answer}
use Rattle.rules.specs.Batch.{request, card_of, answers_to}
use Rattle.batch.proofs.Carries.{card-turn, answers-turn, answered, all-answered, none_left, took-code, took-bytes, took-head, took-knows}
use Rattle.batch.proofs.load.Goals as goal

pub loop-i-init : goal.loop-i-init
loop-i-init c = (c.requires.0, c.requires.1, refl, refl)

pub answer_to-answered-requires : goal.answer_to-answered-requires
answer_to-answered-requires c =
    let l = c.loop-i in
    (l.invariant.0, l.invariant.1, omega (arith, c.requires.2, l.auto.answers, c.loop-i-test.true))

pub loop-i-preserved : goal.loop-i-preserved
loop-i-preserved c =
    let l = c.loop-i in
    let n = length c.args.answers.now in
    let requests = c.args.requests.now in
    let r = c.answer_to-answered.result in
    let t = c.answer_to-answered.ensures in
    let hq = l.invariant.0 in
    let bytes = took-bytes c.args.head l.card _ _ hq r t in
    let code = c.code_of.ensures ∙ took-code c.args.head l.card _ _ hq r t in
    let lt : l.i < n = omega (arith, c.loop-i-test.true) in (
      took-head c.args.head l.card _ _ hq r t,
      rw c.unwrap_or-known.ensures (took-knows c.args.head l.card _ _ hq r l.known l.invariant.1 t),
      rw bytes (sym (card-turn requests l.i n lt l.card) ∙ l.invariant.2),
      rw (bytes, code) (answered l.answers l.i (plan_answer (request l.card (sector_at requests l.i))).code _ _ (omega (arith, l.auto.answers, lt))
          (sym (ap (λ (x : List ℕ). take l.i l.answers ++ x) (answers-turn requests l.i n lt l.card)) ∙ l.invariant.3)),
    )

pub returns-clause-card_after : goal.returns-clause-card_after
unfolding card_of
returns-clause-card_after c =
    let l = c.loop-i in
    let at-end : l.i ≡ length c.args.answers.now = omega (arith, c.loop-i-test.false, l.auto.i-end, c.requires.3) in
    rw (none_left c.args.requests.now l.i (length c.args.answers.now) at-end) at l.invariant.2

pub returns-clause-answers_after : goal.returns-clause-answers_after
unfolding answers_to
returns-clause-answers_after c =
    let l = c.loop-i in
    let at-end : l.i ≡ length c.args.answers.now = omega (arith, c.loop-i-test.false, l.auto.i-end, c.requires.3) in
    all-answered l.answers l.i _ (omega (arith, c.loop-i-test.false, l.auto.answers)) (rw (none_left c.args.requests.now l.i (length c.args.answers.now) at-end) at l.invariant.3)
