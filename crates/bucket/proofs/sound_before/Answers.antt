-- The sectors left are sound exactly where all before the i-th are.
use Prim.Native.Nat.{◌-◌}
use mathlib.Core.Path.{◌≡◌, refl, ap, ◌∙◌}
use mathlib.Core.Bool.{Bool}
use native.Mathlib.Omega.{arith}
use Rattle.rules.specs.Plain.{◌&◌}
use Rattle.scan.specs.Back.{last_first, sound}
use Rattle.scan.proofs.Back.{back_end, back-turn}
use Rattle.bucket.specs.Places.{data_fits}
use Rattle.bucket.proofs.sound_before.Goals as goal
use Rattle.bucket.proofs.sound_before.Goals.{After-fits_at}

-- what the sector judged says of them all
turn_at : (q : After-fits_at) →
    let a = q.args in
    (q.fits_at.result & sound (data_fits a.header) (last_first a.n a.part.now (q.loop-j.j - 1))) ≡ sound (data_fits a.header) (last_first a.n a.part.now a.i)
unfolding sound
turn_at q =
    let a = q.args in
    let l = q.loop-j in
    ap (λ (b : Bool). b & sound (data_fits a.header) (last_first a.n a.part.now (l.j - 1))) q.fits_at.ensures
    ∙ back-turn (sound (data_fits a.header)) a.n l.j a.part.now _ _ q.loop-j-test.true refl l.invariant

pub loop-j-preserved : goal.loop-j-preserved
loop-j-preserved c = rw c.if-not-fits_at.false at (turn_at (goal.at.loop-j-preserved c).After-fits_at)

pub returns-then-not-fits_at : goal.returns-then-not-fits_at
returns-then-not-fits_at c = rw c.if-not-fits_at.true at (turn_at (goal.at.returns-then-not-fits_at c).After-fits_at)

pub returns : goal.returns
unfolding sound
returns c = rw (back_end c.args.n c.loop-j.j c.args.part.now (omega (arith, c.loop-j-test.false))) at c.loop-j.invariant

pub loop-j-init : goal.loop-j-init
loop-j-init c = refl
