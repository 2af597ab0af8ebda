-- `climb::rewrite` fills the fresh buckets of a level and hands on their pairs.
use native.Mathlib.Omega.{arith}
use Rattle.climb.proofs.Reading.{reads}
use Rattle.climb.proofs.rewrite.Goals as goal

pub write_own-requires-clause-fits : goal.write_own-requires-clause-fits
write_own-requires-clause-fits c =
    let a = c.args in
    let rd = reads a.head a.card.now a.b c.requires.ready.0.shape c.requires.ready.1 in
    let hand = c.kept_in-hand.ensures in
    (rw c.as_slice.ensures.value hand.2, rw c.as_slice.ensures.value (omega (arith, hand.1, c.requires.ready.2, rd.room)), c.limit_in-limit.ensures.2)
