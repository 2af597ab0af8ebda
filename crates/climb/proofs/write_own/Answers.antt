-- `climb::write_own` fills one fresh bucket, or two.
use mathlib.Core.List.{[]}
use Prim.Native.Nat.{◌+◌}
use native.Mathlib.Omega.{arith}
use lib.ListN.{length}
use borrow.Author.Tests.{lt-ltb, le-ltb}
use Rattle.climb.specs.Levels.{own_card, Ready}
use Rattle.climb.proofs.Rising.{ready-into}
use Rattle.climb.proofs.write_own.Goals as goal

pub returns-then-n-limit : goal.returns-then-n-limit
unfolding own_card
returns-then-n-limit c = rw (lt-ltb (length c.args.entries.now) c.args.limit c.if-n-limit.true) c.write_new.ensures

-- the second bucket is the card's, and as fresh as the first was
pub write_new-requires-3-clause-fresh : goal.write_new-requires-3-clause-fresh
write_new-requires-3-clause-fresh c =
    let a = c.args in
    let cap = rw (le-ltb (length a.entries.now) a.limit c.if-n-limit.false) at c.requires.ready.1 in
    let filled : Ready a.head c.write_new-2.new.card [] (a.fresh + 1) = rw c.write_new-2.ensures (ready-into _ _ _ _ _ c.requires.ready.0 (omega (arith, cap))) in
    (filled.shape, omega arith, omega (arith, cap), filled.free (a.fresh + 1) (omega arith) (omega (arith, cap)))

pub returns : goal.returns
unfolding own_card
returns c =
    let halves = c.split_at.ensures in
    rw (le-ltb (length c.args.entries.now) c.args.limit c.if-n-limit.false, ← c.halved.ensures.0, ← halves.front, ← halves.back, ← c.write_new-2.ensures) c.write_new-3.ensures
