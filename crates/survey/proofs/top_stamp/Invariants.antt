-- `survey::top_stamp` goes from behind: what it has is the largest stamp of the sectors passed by.
use mathlib.Core.Path.{◌≡◌}
use Prim.Native.Nat.{◌-◌, ◌≤◌}
use Rattle.rules.specs.Write.{top_stamp}
use Rattle.survey.proofs.top_stamp.Given as goal

abbrev pub invariant-loop-i : goal.invariant-loop-i
invariant-loop-i l = (l.from ≤ l.i) × (l.top ≡ top_stamp l.card l.i (l.to - l.i))
