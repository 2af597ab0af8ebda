-- What is left from sector i on, with the best so far, gives what the whole gives.
use borrow.Author.Rules.{rules}
use mathlib.Core.Path.{refl, ◌∙◌}
use Prim.Native.Nat.{◌<◌, ◌≤◌}
use native.Mathlib.Nat.{sub-zero}
use native.Mathlib.Omega.{arith}
use Rattle.rules.specs.Sector.{is_data}
use Rattle.scan.specs.Next.{above_at, weigh, runs}
use Rattle.scan.proofs.Loops.{sectors-turn, sectors-end}
use Rattle.scan.proofs.Judged.{fields-turn}
use Rattle.bucket.specs.Places.{found_at}
use Rattle.journal.proofs.Turns.{low_at, least-place, low-next}
use Rattle.journal.proofs.least.Goals as goal
use Rattle.journal.proofs.least.Goals.{then-lower, else-lower}

pub loop-i-init : goal.loop-i-init
unfolding found_at low_at
loop-i-init c = (omega arith, refl, rw sub-zero c.requires.1, rw sub-zero)

pub loop-i-preserved : goal.loop-i-preserved
loop-i-preserved c =
    let a = c.args in
    let l = c.loop-i in
    let is_fields = c.fields_at-e.ensures in
    let fits : c.fields_at-e.result.key ≤ 4294967295 = search rules in
    let less : l.i < a.used = c.loop-i-test.true in
    let run = sectors-turn (runs is_data) 0 a.used l.i a.slice.now _ _ less refl l.invariant.2 in
    let whole = sectors-turn (λ ss. weigh (above_at a.x a.t) ss (found_at a.slice.now l.best)) 0 a.used l.i a.slice.now _ _ less refl l.invariant.3 in
    let on = fields-turn is_data 0 a.x a.t _ _ _ _ _ refl run whole in
    let kept = least-place a.slice.now l.i l.best a.x a.t l.low (rw is_fields at fits) l.invariant.1 _ (rw is_fields at c.lower-lower.ensures) in
    let more = rw kept at on.1 in
    elim c.if-lower.branch [
      | then-lower w ↦ (
        omega (arith, w.best-is),
        rw (w.low-is, w.best-is, is_fields) (low-next a.slice.now l.i),
        on.0,
        rw w.best-is (rw w.if-lower.true at more),
      )
      | else-lower w ↦ (omega (arith, w.best-is, l.invariant.0), rw (w.low-is, w.best-is) l.invariant.1, on.0, rw w.best-is (rw w.if-lower.false at more))
    ]

pub returns : goal.returns
unfolding weigh
returns c =
    let a = c.args in
    c.entry_at.ensures ∙ (rw (sectors-end 0 a.used c.loop-i.i a.slice.now (omega (arith, c.loop-i-test.false))) at c.loop-i.invariant.3)
