-- What is left from sector i on, with the entry at the place kept, gives what the whole scan gives.
use mathlib.Core.Path.{sym, ap, ◌∙◌}
use native.Mathlib.Nat.{sub-zero}
use native.Mathlib.Omega.{arith}
use borrow.Author.Tests.{le-leb, lt-leb}
use Rattle.std.specs.Prelude.{Ok}
use Rattle.scan.proofs.Loops.{scan-end, scan-held, scan-misfit, scan-blank, scan-hole, scan-damage}
use Rattle.bucket.specs.Places.{found_at}
use Rattle.bucket.proofs.Places.{log-place}
use Rattle.bucket.proofs.scan_log.Goals as goal
use Rattle.bucket.proofs.scan_log.Goals.{then-early, else-early, else-loop-i-test, then-loop-i-test+in-Blank}

pub loop-i-init : goal.loop-i-init
unfolding found_at
loop-i-init c = (omega arith, rw sub-zero)

pub loop-i-preserved : goal.loop-i-preserved
loop-i-preserved c =
    let a = c.args in
    let l = c.loop-i in
    let kept = log-place a.n a.part.now l.i l.place _ (sym c.in-Held.ensures) a.t in
    let more = rw kept at (scan-held _ _ _ a.n a.count l.i a.part.now _ l.invariant.1 c.loop-i-test.true _ c.in-Held.ensures c.if-is_root.ensures) in
    elim c.if-early.branch [
      | then-early w ↦ (omega (arith, w.place-is), rw w.place-is (rw (le-leb _ _ w.if-early.true) at more))
      | else-early w ↦ (omega (arith, w.place-is, l.invariant.0), rw w.place-is (rw (lt-leb _ _ w.if-early.false) at more))
    ]

pub returns : goal.returns
returns c =
    let a = c.args in
    let l = c.loop-i in
    ap Ok c.entry_at.ensures ∙ elim c.loop-i-test.branch [
      | else-loop-i-test w ↦ scan-end _ _ _ a.n a.count l.i a.part.now _ l.invariant.1 (omega (arith, w.loop-i-test.false))
      | then-loop-i-test+in-Blank w ↦ scan-blank _ _ _ a.n a.count l.i a.part.now _ l.invariant.1 w.loop-i-test.true w.in-Blank.ensures w.if-blank_behind.ensures
    ]

pub entry_at-requires : goal.entry_at-requires
entry_at-requires c = omega (arith, c.loop-i.invariant.0, c.loop-i.auto.i-end, c.requires.0)

pub returns-in_default : goal.returns-in_default
returns-in_default c =
    let a = c.args in
    scan-misfit _ _ _ a.n a.count c.loop-i.i a.part.now _ c.loop-i.invariant.1 c.loop-i-test.true _ c.in-Held.ensures c.if-is_root.ensures

pub returns-in_default-2 : goal.returns-in_default-2
returns-in_default-2 c =
    let a = c.args in
    scan-hole _ _ _ a.n a.count c.loop-i.i a.part.now _ c.loop-i.invariant.1 c.loop-i-test.true c.in-Blank.ensures c.if-blank_behind.ensures

pub returns-in_default-3 : goal.returns-in_default-3
returns-in_default-3 c =
    let a = c.args in
    scan-damage _ _ _ a.n a.count c.loop-i.i a.part.now _ c.loop-i.invariant.1 c.loop-i-test.true (sym c.in_default.is ∙ c.at.ensures)
