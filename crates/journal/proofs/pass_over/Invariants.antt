-- What is left from sector i on, with the stamp and the place kept, gives what the whole pass gives.
use Prim.Native.Nat.{◌-◌, ◌≤◌}
use mathlib.Core.Path.{◌≡◌}
use Rattle.std.specs.Prelude.{None}
use Rattle.scan.specs.Scan.{sectors}
use Rattle.bucket.specs.Places.{found_at}
use Rattle.journal.specs.Passes.{read_scan}
use Rattle.journal.proofs.pass_over.Given as goal

abbrev pub invariant-loop-i : goal.invariant-loop-i
invariant-loop-i l = (l.used ≡ l.i) × (l.place ≤ l.i) × (read_scan l.x l.t (sectors 0 l.slice l.i (l.count - l.i)) l.i l.last (found_at l.slice l.place) ≡ read_scan l.x l.t (sectors 0 l.slice 0 l.count) 0 0 None)
