-- `survey::end`: behind the written buckets all is zero.
use native.Mathlib.Omega.{arith}
use Rattle.survey.proofs.end.Goals as goal

pub returns : goal.returns
returns c = (omega (arith, c.behind.ensures.0), c.behind.ensures.1, rw c.behind.ensures.0 c.written.ensures.card_value)
