-- `survey::guess` gives some number of buckets: nothing more is asked of it.
use native.Mathlib.Omega.{arith}
use Rattle.survey.proofs.guess.Goals as goal

pub overflow_add-mid : goal.overflow_add-mid
overflow_add-mid c = omega (arith, c.args.card.now.shape.lim.n4096, c.loop-low.invariant)
