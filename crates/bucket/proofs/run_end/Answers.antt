-- What is left before sector i, its blanks passed over, is what the whole gives so.
use Prim.Native.Nat.{◌-◌, ◌+◌}
use mathlib.Core.Path.{◌≡◌, refl, ap, ◌∙◌}
use native.Mathlib.Omega.{arith}
use Rattle.rules.specs.Plain.{if}
use Rattle.scan.specs.Back.{last_first, written}
use Rattle.scan.proofs.Back.{back_end, pass-turn}
use Rattle.bucket.proofs.run_end.Goals as goal
use Rattle.bucket.proofs.run_end.Goals.{After-blank_at}

-- what the sector asked for zeros says of the whole
turn_at : (q : After-blank_at) →
    let a = q.args in
    if q.blank_at.result (written (last_first a.n a.part.now (q.loop-i.i - 1))) (last_first a.n a.part.now q.loop-i.i)
    ≡ written (last_first a.n a.part.now a.count)
turn_at q =
    let a = q.args in
    pass-turn a.n q.loop-i.i a.part.now _ _ q.loop-i-test.true q.blank_at.ensures q.loop-i.invariant

pub loop-i-preserved : goal.loop-i-preserved
loop-i-preserved c = rw c.if-not-blank_at.false at (turn_at (goal.at.loop-i-preserved c).After-blank_at)

pub returns-then-not-blank_at : goal.returns-then-not-blank_at
returns-then-not-blank_at c =
    let a = c.args in
    let i : c.loop-i.i - 1 + 1 ≡ c.loop-i.i = omega (arith, c.loop-i-test.true) in
    let whole = rw c.if-not-blank_at.true at (turn_at (goal.at.returns-then-not-blank_at c).After-blank_at) in
    (omega (arith, c.loop-i-test.true, c.loop-i.auto.i), ap (last_first a.n a.part.now) i ∙ whole)

pub returns : goal.returns
unfolding written last_first
returns c =
    let none = back_end c.args.n c.loop-i.i c.args.part.now (omega (arith, c.loop-i-test.false)) in
    (omega arith, rw none at c.loop-i.invariant)

pub loop-i-init : goal.loop-i-init
loop-i-init c = refl
