-- `survey::highest` goes from behind: what the buckets passed by leave is what all have.
use mathlib.Core.Path.{◌≡◌, ap, sym, ◌∙◌}
use Prim.Native.Nat.{◌+◌, ◌-◌}
use native.Mathlib.Omega.{arith}
use Rattle.rules.specs.Plain.{zeros}
use Rattle.rules.specs.Write.{top_used}
use Rattle.survey.proofs.Stamps.{highest-blank, highest-here}
use Rattle.survey.proofs.highest.Goals as goal

pub returns : goal.returns
unfolding top_used
returns c =
    let card = c.args.card.now in
    let none : c.loop-below.below ≡ 0 = omega (arith, c.loop-below-test.false) in
    ap (top_used card.head card.bytes.now) (sym none) ∙ c.loop-below.invariant

pub loop-below-preserved : goal.loop-below-preserved
loop-below-preserved c =
    let card = c.args.card.now in
    let l = c.loop-below in
    let back : l.below - 1 + 1 ≡ l.below = omega (arith, c.loop-below-test.true) in
    let z = rw back at (ap zeros (sym c.bucket.ensures.0) ∙ sym c.if-not-blank.ensures) in
    highest-blank card.head card.bytes.now l.below card.shape c.loop-below-test.true (omega (arith, l.auto.below, c.requires)) z ∙ l.invariant

pub returns-then-not-blank : goal.returns-then-not-blank
returns-then-not-blank c =
    let card = c.args.card.now in
    let l = c.loop-below in
    let back : l.below - 1 + 1 ≡ l.below = omega (arith, c.loop-below-test.true) in
    let z = rw back at (ap zeros (sym c.bucket.ensures.0) ∙ sym c.if-not-blank.ensures) in
    back ∙ highest-here card.head card.bytes.now l.below card.shape c.loop-below-test.true (omega (arith, l.auto.below, c.requires)) z ∙ l.invariant
