-- `line::run` reads a number as far as its digits go.
use mathlib.Core.Path.{◌≡◌}
use lib.ListN.{length}
use Rattle.line.specs.Fields.{run_on}
use Rattle.line.proofs.run.Given as goal

abbrev pub invariant-loop-next : goal.invariant-loop-next
invariant-loop-next l = run_on 0 l.line ≡ run_on l.value l.rest

abbrev pub decreases-loop-next : goal.decreases-loop-next
decreases-loop-next l = length l.rest
