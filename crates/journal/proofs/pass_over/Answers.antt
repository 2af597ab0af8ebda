-- What is left from sector i on, with the stamp and the place kept, gives what the whole pass gives.
use Prim.Native.Nat.{ℕ}
use mathlib.Core.Path.{refl, sym, ap, ◌∙◌}
use native.Mathlib.Nat.{sub-zero}
use native.Mathlib.Omega.{arith}
use Rattle.std.specs.Prelude.{Ok, Option}
use Rattle.rules.specs.declared.Entry.{Entry}
use Rattle.bucket.specs.Places.{found_at}
use Rattle.journal.specs.Passes.{pass}
use Rattle.journal.proofs.Turns.{read-end, read-next, read-misfit, read-rest, read-hole, read-damage, copy-place}
use Rattle.journal.proofs.pass_over.Goals as goal
use Rattle.journal.proofs.pass_over.Goals.{then-copy, else-copy, else-loop-i-test, then-loop-i-test+in-Blank}

pub loop-i-init : goal.loop-i-init
unfolding found_at
loop-i-init c = (refl, omega arith, rw sub-zero)

pub loop-i-preserved : goal.loop-i-preserved
loop-i-preserved c =
    let a = c.args in
    let l = c.loop-i in
    let kept = copy-place a.slice.now l.i l.place _ (sym c.in-Held.ensures) a.x a.t _ c.is_copy-copy.ensures in
    let more = rw kept at (read-next _ _ _ l.i _ a.slice.now _ _ l.invariant.2 c.loop-i-test.true _ c.in-Held.ensures c.if-follows.ensures) in
    elim c.if-copy.branch [
      | then-copy w ↦ (refl, omega (arith, w.place-is), rw w.place-is (rw w.if-copy.true at more))
      | else-copy w ↦ (refl, omega (arith, w.place-is, l.invariant.1), rw w.place-is (rw w.if-copy.false at more))
    ]

pub returns : goal.returns
returns c =
    let a = c.args in
    let l = c.loop-i in
    ap Ok (ap (λ (u : ℕ). pass u l.last c.entry_at-copy.result) l.invariant.0 ∙ ap (λ (o : Option Entry). pass l.i l.last o) c.entry_at-copy.ensures) ∙ elim c.loop-i-test.branch [
      | else-loop-i-test w ↦ read-end _ _ _ l.i _ a.slice.now _ _ l.invariant.2 (omega (arith, w.loop-i-test.false))
      | then-loop-i-test+in-Blank w ↦ read-rest _ _ _ l.i _ a.slice.now _ _ l.invariant.2 w.loop-i-test.true w.in-Blank.ensures w.if-blank_behind.ensures
    ]

pub returns-in_default : goal.returns-in_default
returns-in_default c = read-misfit _ _ _ c.loop-i.i _ c.args.slice.now _ _ c.loop-i.invariant.2 c.loop-i-test.true _ c.in-Held.ensures c.if-follows.ensures

pub returns-in_default-2 : goal.returns-in_default-2
returns-in_default-2 c = read-hole _ _ _ c.loop-i.i _ c.args.slice.now _ _ c.loop-i.invariant.2 c.loop-i-test.true c.in-Blank.ensures c.if-blank_behind.ensures

pub returns-in_default-3 : goal.returns-in_default-3
returns-in_default-3 c = read-damage _ _ _ c.loop-i.i _ c.args.slice.now _ _ c.loop-i.invariant.2 c.loop-i-test.true (sym c.in_default.is ∙ c.at.ensures)
