-- `survey::bound` is no less than the largest stamp: the larger of it and of what is left never was.
use Prim.Native.Nat.{◌-◌, ◌≤◌, max}
use Rattle.rules.specs.Write.{top_stamp}
use Rattle.survey.proofs.bound.Given as goal

abbrev pub invariant-loop-i : goal.invariant-loop-i
invariant-loop-i l = top_stamp l.card l.from (l.to - l.from) ≤ max l.top (top_stamp l.card l.i (l.to - l.i))
