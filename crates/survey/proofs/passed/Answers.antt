-- `survey::passed`: where no field seen is above `before`, the stamps that are left decide.
use borrow.Author.Tests.{ltb-false}
use native.Mathlib.Omega.{arith}
use Rattle.survey.proofs.Stamps.{field-turn, field_end, or-false}
use Rattle.survey.proofs.passed.Goals as goal

pub loop-i-preserved : goal.loop-i-preserved
loop-i-preserved c = λ none.
    let l = c.loop-i in
    let neither = or-false l.over _ none in
    field-turn c.args.card.now c.args.to l.i c.args.before _ _ _ c.loop-i-test.true (l.invariant neither.0) (rw c.bytes.ensures at c.read_word.ensures) (omega arith) (ltb-false _ _ neither.1)

pub returns : goal.returns
returns c = λ none. field_end c.args.card.now c.args.to c.loop-i.i c.args.before _ (omega (arith, c.loop-i-test.false)) (c.loop-i.invariant none)

pub loop-i-init : goal.loop-i-init
loop-i-init c = λ none. omega arith
