-- `line::run` reads a number as far as its digits go.
use mathlib.Core.Path.{◌∙◌}
use native.Mathlib.Omega.{arith}
use Rattle.line.proofs.Digits.{run-end, run-more, run-over}
use Rattle.line.proofs.run.Goals as goal

pub returns-in_err-tens : goal.returns-in_err-tens
returns-in_err-tens c =
    rw c.from_residual.ensures (c.loop-next.invariant ∙ run-over _ _ _ _ c.in-Some.ensures (omega (arith, c.in_err-tens.ensures)))

pub returns-in_err-value : goal.returns-in_err-value
returns-in_err-value c =
    let tens = c.in_ok-tens.ensures.1 in
    rw c.from_residual-in_err-value.ensures (c.loop-next.invariant ∙ run-over _ _ _ _ c.in-Some.ensures (omega (arith, c.in_err-value.ensures)))

pub loop-next-preserved : goal.loop-next-preserved
loop-next-preserved c =
    let tens = c.in_ok-tens.ensures.1 in
    let sum = c.in_ok-value.ensures in
    rw (sum.1, tens) (c.loop-next.invariant ∙ run-more _ _ _ _ c.in-Some.ensures (omega arith))

pub returns : goal.returns
returns c = c.loop-next.invariant ∙ run-end _ _ c.in_default.ensures
