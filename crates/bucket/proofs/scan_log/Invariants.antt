-- What is left from sector i on, with the entry at the place kept, gives what the whole scan gives.
use Prim.Native.Nat.{◌≤◌, ◌-◌}
use mathlib.Core.Path.{◌≡◌}
use Rattle.std.specs.Prelude.{None}
use Rattle.rules.specs.Sector.{is_root}
use Rattle.scan.specs.Scan.{sectors, scan_in, pick_root}
use Rattle.bucket.specs.Places.{found_at}
use Rattle.bucket.proofs.scan_log.Given as goal

abbrev pub invariant-loop-i : goal.invariant-loop-i
invariant-loop-i l = (l.place ≤ l.i) × (scan_in is_root (pick_root l.t) (sectors l.n l.part l.i (l.count - l.i)) (found_at l.part l.place) ≡ scan_in is_root (pick_root l.t) (sectors l.n l.part 0 l.count) None)
