-- `survey::top_stamp` goes from behind: what it has is the largest stamp of the sectors passed by.
use mathlib.Core.Path.{◌≡◌}
use Prim.Native.Nat.{◌+◌, ◌-◌}
use native.Mathlib.Omega.{arith}
use Rattle.rules.specs.Write.{top_stamp}
use Rattle.survey.proofs.Stamps.{from_start, from-turn, from_less}
use Rattle.survey.proofs.top_stamp.Goals as goal
use Rattle.survey.proofs.top_stamp.Goals.{After-max-top}

-- the sector in front of those passed by is weighed
one_more : (q : After-max-top) →
    let a = q.args in
    let i = q.loop-i.i - 1 in
    q.max-top.result ≡ top_stamp a.card.now i (a.to - i)
one_more q =
    let a = q.args in
    let l = q.loop-i in
    let back : l.i - 1 + 1 ≡ l.i = omega (arith, q.loop-i-test.true) in
    from-turn a.card.now a.to (l.i - 1) l.top q.stamp_of.result _ (omega (arith, q.loop-i-test.true, l.auto.i)) (rw back l.invariant.1) (rw q.bytes.ensures at q.stamp_of.ensures) (omega (arith, q.max-top.ensures))

pub loop-i-init : goal.loop-i-init
loop-i-init c = (c.requires.0, from_start c.args.card.now c.args.to)

pub returns-then-seen : goal.returns-then-seen
returns-then-seen c =
    let a = c.args in
    let l = c.loop-i in
    let some = from_less a.card.now a.from a.to (l.i - 1) (omega (arith, c.loop-i-test.true)) (omega (arith, l.auto.i)) in
    (omega (arith, some, one_more (goal.at.returns-then-seen c).After-max-top), λ less. omega (arith, c.if-seen.true))

pub loop-i-preserved : goal.loop-i-preserved
loop-i-preserved c = (omega (arith, c.loop-i-test.true), one_more (goal.at.loop-i-preserved c).After-max-top)

pub returns : goal.returns
returns c =
    let l = c.loop-i in
    let all : l.i ≡ c.args.from = omega (arith, l.invariant.0, c.loop-i-test.false) in
    let is = rw all at l.invariant.1 in
    (omega (arith, is), λ less. omega (arith, is))
