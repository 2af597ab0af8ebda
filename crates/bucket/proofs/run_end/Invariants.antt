-- What is left before sector i, its blanks passed over, is what the whole gives so.
use mathlib.Core.Path.{◌≡◌}
use Rattle.scan.specs.Back.{last_first, written}
use Rattle.bucket.proofs.run_end.Given as goal

abbrev pub invariant-loop-i : goal.invariant-loop-i
invariant-loop-i l = written (last_first l.n l.part l.i) ≡ written (last_first l.n l.part l.count)
