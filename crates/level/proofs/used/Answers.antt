-- `level::used` counts a bucket's written sectors. Those counted and those left to count are those of the whole.
use Rattle.level.proofs.Turns.{used_turn}
use Rattle.level.proofs.used.Goals as goal

pub loop-i-preserved : goal.loop-i-preserved
loop-i-preserved c = used_turn c.args.part.now c.args.m _ c.loop-i.i c.loop-i.invariant c.loop-i-test.true c.if-part-i-eq0.false
