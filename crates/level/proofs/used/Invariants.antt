-- `level::used` counts a bucket's written sectors. Those counted and those left to count are those of the whole.
use Rattle.std.proofs.Common.{◌≡◌, ◌-◌}
use Rattle.level.specs.Level.{used_of}
use Rattle.level.proofs.used.Given as goal

abbrev pub invariant-loop-i : goal.invariant-loop-i
invariant-loop-i l = used_of l.i l.part l.i (l.m - l.i) ≡ used_of 0 l.part 0 l.m
