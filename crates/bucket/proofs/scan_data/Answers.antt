-- What is left before sector i, passed through from its last sector down, gives what the scan of the whole bucket gives.
use Prim.Native.Nat.{◌-◌}
use mathlib.Core.Path.{◌≡◌, refl, ap, ◌∙◌}
use mathlib.Core.Bool.{Bool, false}
use mathlib.Core.List.{◌∷◌}
use native.Mathlib.Omega.{arith}
use Rattle.std.specs.Prelude.{None, Some, Ok}
use Rattle.rules.specs.Plain.{if}
use Rattle.scan.specs.Scan.{damaged, sectors, scan_in, pick}
use Rattle.scan.specs.Back.{last_first, sound, first_in}
use Rattle.scan.proofs.Back.{from_last, back_end, back-turn, no-entry-first, first-met}
use Rattle.bucket.specs.Places.{data_fits, is_copy}
use Rattle.bucket.proofs.Places.{pick-copy}
use Rattle.bucket.proofs.scan_data.Goals as goal
use Rattle.bucket.proofs.scan_data.Goals.{After-at, After-data_fits}

pub loop-i-init : goal.loop-i-init
loop-i-init c =
    let a = c.args in
    ap (first_in (data_fits a.header) (is_copy a.x a.t)) c.run_end-end.ensures.1
    ∙ from_last (data_fits a.header) (is_copy a.x a.t) (pick false a.x a.t) (pick-copy a.x a.t) a.n a.count a.part.now

-- what the sector read says of the whole scan
turn_at : (q : After-at) →
    let a = q.args in
    first_in (data_fits a.header) (is_copy a.x a.t) (q.at.result ∷ last_first a.n a.part.now (q.loop-i.i - 1))
    ≡ scan_in (data_fits a.header) (pick false a.x a.t) (sectors a.n a.part.now 0 a.count) None
turn_at q =
    let a = q.args in
    back-turn (first_in (data_fits a.header) (is_copy a.x a.t)) a.n q.loop-i.i a.part.now _ _ q.loop-i-test.true q.at.ensures q.loop-i.invariant

-- what the entry in it says, by whether it fits, whether it is a copy of x, and whether what is left is sound
met_at : (q : After-data_fits) →
    let a = q.args in
    let e = q.in-Held.e in
    let below = last_first a.n a.part.now (q.loop-i.i - 1) in
    (copy rest : Bool) → copy ≡ is_copy a.x a.t e → rest ≡ sound (data_fits a.header) below
    → if q.data_fits.result (if copy (if rest (Ok (Some e)) damaged) (first_in (data_fits a.header) (is_copy a.x a.t) below)) damaged
    ≡ scan_in (data_fits a.header) (pick false a.x a.t) (sectors a.n a.part.now 0 a.count) None
met_at q copy rest copies judges =
    let a = q.args in
    first-met _ _ _ _ _ copy rest q.data_fits.ensures copies judges
    ∙ (rw q.in-Held.is at (back-turn (first_in (data_fits a.header) (is_copy a.x a.t)) a.n q.loop-i.i a.part.now _ _ q.loop-i-test.true q.at.ensures q.loop-i.invariant))

pub loop-i-preserved : goal.loop-i-preserved
loop-i-preserved c =
    rw (c.if-not-data_fits.false, c.if-is_copy.false) at (met_at (goal.at.loop-i-preserved c).After-data_fits _ _ c.is_copy.ensures refl)

pub returns : goal.returns
unfolding first_in
returns c = rw (back_end c.args.n c.loop-i.i c.args.part.now (omega (arith, c.loop-i-test.false))) at c.loop-i.invariant

pub returns-in_default : goal.returns-in_default
returns-in_default c = no-entry-first _ _ _ _ c.in_default.not-Held ∙ turn_at (goal.at.returns-in_default c).After-at

pub returns-then-sound_before : goal.returns-then-sound_before
returns-then-sound_before c =
    rw (c.if-not-data_fits.false, c.if-is_copy.true, c.if-sound_before.true) at (met_at (goal.at.returns-then-sound_before c).After-data_fits _ _ c.is_copy.ensures c.sound_before.ensures)

pub returns-then-is_copy : goal.returns-then-is_copy
returns-then-is_copy c =
    rw (c.if-not-data_fits.false, c.if-is_copy.true, c.if-sound_before.false) at (met_at (goal.at.returns-then-is_copy c).After-data_fits _ _ c.is_copy.ensures c.sound_before.ensures)

pub returns-then-not-data_fits : goal.returns-then-not-data_fits
returns-then-not-data_fits c = rw c.if-not-data_fits.true at (met_at (goal.at.returns-then-not-data_fits c).After-data_fits _ _ refl refl)
