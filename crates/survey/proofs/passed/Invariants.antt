-- `survey::passed`: where no field seen is above `before`, the stamps that are left decide.
use mathlib.Core.Path.{◌≡◌}
use mathlib.Core.Bool.{false}
use Prim.Native.Nat.{◌-◌, ◌≤◌, max}
use Rattle.rules.specs.Write.{top_stamp}
use Rattle.survey.proofs.passed.Given as goal

abbrev pub invariant-loop-i : goal.invariant-loop-i
invariant-loop-i l = l.over ≡ false → top_stamp l.card l.from (l.to - l.from) ≤ max l.before (top_stamp l.card l.i (l.to - l.i))
