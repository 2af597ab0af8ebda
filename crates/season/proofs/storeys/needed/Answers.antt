-- `storeys::needed` counts the buckets of a season card. The levels left from here give what all give.
use mathlib.Core.Path.{refl}
use native.Mathlib.Omega.{arith}
use Rattle.season.specs.Storeys.{over, fresh}
use Rattle.season.proofs.Counts.{over-third, over-some, over-less}
use Rattle.season.proofs.Turns.{left-more}
use Rattle.season.proofs.storeys.needed.Goals as goal

pub overflow_add-next : goal.overflow_add-next
overflow_add-next c =
    let a = c.args in
    let t = over-third a.q a.entries c.requires.0 in
    omega (arith, c.over-c.ensures)

pub loop-q-init : goal.loop-q-init
unfolding fresh
loop-q-init c =
    let a = c.args in
    let e = c.over-c.ensures in
    let t = over-third a.q a.entries c.requires.0 in
    let s = over-some a.q a.entries (omega arith) (omega arith) in
    (omega arith, omega arith, record { f = over a.q a.entries; enough = omega arith; gives = rw e refl })

pub overflow_add-next-in-loop-q : goal.overflow_add-next-in-loop-q
overflow_add-next-in-loop-q c =
    let l = c.loop-q in
    let t = over-third c.args.q l.c c.requires.0 in
    omega (arith, c.over-up.ensures, l.invariant)

pub loop-q-smaller : goal.loop-q-smaller
loop-q-smaller c =
    let e = c.over-up.ensures in
    let l = c.loop-q in
    let t = over-less c.args.q l.c c.requires.0 (omega arith) in
    omega arith

pub loop-q-preserved : goal.loop-q-preserved
loop-q-preserved c =
    let e = c.over-up.ensures in
    let l = c.loop-q in
    let t = over-third c.args.q l.c c.requires.0 in
    (omega arith, omega (arith, l.invariant), rw e (left-more c.args.q l.next l.c _ c.requires.0 l.invariant.0 l.invariant.2 (omega arith)))
