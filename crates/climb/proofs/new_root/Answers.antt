-- `climb::new_root` lays down the root over two pairs, and the log entry.
use mathlib.Core.Path.{◌≡◌, sym, ◌∙◌}
use mathlib.Core.List.{[]}
use Prim.Native.Nat.{◌≤◌}
use native.Mathlib.Omega.{arith}
use lib.ListN.{length}
use Rattle.rules.specs.Rewrite.{into}
use Rattle.level.specs.Level.{sent_list}
use Rattle.laws.proofs.Heads.{bucket-fits}
use Rattle.climb.proofs.Laying.{into-puts}
use Rattle.climb.proofs.Rising.{ready-into, root-two, root-one, two-sent}
use Rattle.climb.proofs.new_root.Goals as goal
use Rattle.climb.proofs.new_root.Goals.{After-write_sent, Then-is_some}

-- two pairs: there is a fresh bucket for them
for-two : (q : Then-is_some) → let a = q.args in (a.fresh ≤ a.head.n) × (length (sent_list a.p.now) ≡ 2)
for-two q =
    let a = q.args in
    let cap = rw (root-two a.head a.stamp a.p.now a.fresh a.card.now (sym q.is_some.ensures ∙ q.if-is_some.true)) at q.requires.card_bound in
    (omega (arith, cap), two-sent a.p.now (sym q.is_some.ensures ∙ q.if-is_some.true))

-- they are in it
laid : (q : After-write_sent) →
    let a = q.args in
    (a.fresh ≤ a.head.n) × (length (sent_list a.p.now) ≡ 2) → q.write_sent.new.card ≡ into a.head a.fresh (sent_list a.p.now) a.card.now
laid q two =
    let rd = q.requires.ready.0 in
    q.write_sent.ensures
    ∙ sym (into-puts _ _ _ [] _ _ (rd.free _ (omega arith) two.0) (omega (arith, rd.shape.lim.m4)) (omega (arith, q.first_sector.ensures)))

pub first_sector-requires : goal.first_sector-requires
first_sector-requires c =
    let rd = c.requires.ready.0 in
    (rd.shape.lim.m32, rd.shape.lim.n4096, rd.least, (for-two (goal.at.first_sector-requires c).Then-is_some).0)

pub write_sent-requires : goal.write_sent-requires
write_sent-requires c =
    let rd = c.requires.ready.0 in
    let two = for-two (goal.at.write_sent-requires c).Then-is_some in
    let fits = bucket-fits c.args.head c.args.card.now c.args.fresh rd.shape.long rd.least two.0 in
    (omega (arith, c.first_sector.ensures, rd.shape.lim.m4), c.requires.ready.1)

pub overflow_cast-fresh : goal.overflow_cast-fresh
overflow_cast-fresh c =
    omega (arith, (for-two (goal.at.overflow_cast-fresh c).Then-is_some).0, c.requires.ready.0.shape.lim.n4096)

pub write_log-requires : goal.write_log-requires
write_log-requires c =
    let a = c.args in
    let filled = ready-into a.head a.card.now [] a.fresh (sent_list a.p.now) c.requires.ready.0 (for-two (goal.at.write_log-requires c).Then-is_some).0 in
    rw (laid (goal.at.write_log-requires c).After-write_sent (for-two (goal.at.write_log-requires c).Then-is_some)) (filled.shape, filled.logs)

pub write_log-requires-else-is_some : goal.write_log-requires-else-is_some
write_log-requires-else-is_some c =
    (c.requires.ready.0.shape, c.requires.ready.0.logs)

pub returns-then-is_some : goal.returns-then-is_some
returns-then-is_some c =
    let a = c.args in
    rw (root-two a.head a.stamp a.p.now a.fresh a.card.now (sym c.is_some.ensures ∙ c.if-is_some.true), ← laid (goal.at.returns-then-is_some c).After-write_sent (for-two (goal.at.returns-then-is_some c).Then-is_some)) c.write_log.ensures

pub returns-else-is_some : goal.returns-else-is_some
returns-else-is_some c =
    let a = c.args in
    rw (root-one a.head a.stamp a.p.now a.fresh a.card.now (sym c.is_some.ensures ∙ c.if-is_some.false)) c.write_log-else-is_some.ensures
