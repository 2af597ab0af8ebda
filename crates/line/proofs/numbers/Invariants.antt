-- `line::numbers` has found the numbers of the names so far.
use mathlib.Core.Path.{◌≡◌}
use lib.ListN.{length}
use Rattle.line.proofs.Fields.{Along}
use Rattle.line.proofs.numbers.Given as goal

abbrev pub invariant-loop-i : goal.invariant-loop-i
invariant-loop-i g l = record { room : length l.found ≡ length l.names; along : Along l.names l.line l.found l.i l.rest }
