-- `survey::bound` is no less than the largest stamp: the larger of it and of what is left never was.
use native.Mathlib.Omega.{arith}
use Rattle.survey.proofs.Stamps.{field-turn, field_end}
use Rattle.survey.proofs.bound.Goals as goal

pub loop-i-preserved : goal.loop-i-preserved
loop-i-preserved c =
    let l = c.loop-i in
    let more = c.max-top.ensures in
    field-turn c.args.card.now c.args.to l.i l.top c.read_word.result _ _ c.loop-i-test.true l.invariant (rw c.bytes.ensures at c.read_word.ensures) (omega (arith, more)) (omega (arith, more))

pub returns : goal.returns
returns c = field_end c.args.card.now c.args.to c.loop-i.i c.loop-i.top _ (omega (arith, c.loop-i-test.false)) c.loop-i.invariant
