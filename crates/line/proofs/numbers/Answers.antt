-- `line::numbers` reads the fields as the rules do.
use native.Mathlib.Omega.{arith}
use lib.ListN.{length-set}
use mathlib.Core.Path.{◌∙◌}
use Rattle.line.proofs.Fields.{along-missing, along-more, along-end}
use Rattle.line.proofs.numbers.Goals as goal

pub returns-in_err-value : goal.returns-in_err-value
returns-in_err-value g c =
    let l = c.loop-i in
    rw c.from_residual.ensures (along-missing _ _ _ _ _ _ l.invariant.along c.loop-i-test.true c.in_err-value.ensures)

pub loop-i-preserved : goal.loop-i-preserved
loop-i-preserved g c =
    let l = c.loop-i in
    record { room = length-set l.found l.i _ ∙ l.invariant.room; along = along-more _ _ _ _ _ _ l.invariant.along c.loop-i-test.true _ _ (omega arith) c.in_ok-value.ensures }

pub returns : goal.returns
returns g c = rw c.then_some.ensures (along-end _ _ _ _ _ c.loop-i.invariant.along c.loop-i-test.false _ c.is_empty.ensures c.loop-i.invariant.room)
