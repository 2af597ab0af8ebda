-- `survey::guess` gives some number of buckets: nothing more is asked of it.
use Prim.Native.Nat.{◌-◌, ◌≤◌}
use Rattle.survey.proofs.guess.Given as goal

abbrev pub invariant-loop-low : goal.invariant-loop-low
invariant-loop-low l = (l.low ≤ l.high) × (l.high ≤ l.card.head.n)

abbrev pub decreases-loop-low : goal.decreases-loop-low
decreases-loop-low l = l.high - l.low
