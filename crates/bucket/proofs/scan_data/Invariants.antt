-- What is left before sector i, passed through from its last sector down, gives what the scan of the whole bucket gives.
use mathlib.Core.Path.{◌≡◌}
use mathlib.Core.Bool.{false}
use Rattle.std.specs.Prelude.{None}
use Rattle.scan.specs.Scan.{sectors, scan_in, pick}
use Rattle.scan.specs.Back.{last_first, first_in}
use Rattle.bucket.specs.Places.{data_fits, is_copy}
use Rattle.bucket.proofs.scan_data.Given as goal

abbrev pub invariant-loop-i : goal.invariant-loop-i
invariant-loop-i l = first_in (data_fits l.header) (is_copy l.x l.t) (last_first l.n l.part l.i) ≡ scan_in (data_fits l.header) (pick false l.x l.t) (sectors l.n l.part 0 l.count) None
