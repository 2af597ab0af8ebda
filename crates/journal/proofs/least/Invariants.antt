-- What is left from sector i on, with the best so far, gives what the whole gives.
use mathlib.Core.Path.{◌≡◌}
use mathlib.Core.Bool.{true}
use Prim.Native.Nat.{◌-◌, ◌≤◌}
use Rattle.std.specs.Prelude.{None}
use Rattle.rules.specs.Sector.{is_data}
use Rattle.scan.specs.Scan.{sectors}
use Rattle.scan.specs.Next.{above_at, weigh, runs}
use Rattle.bucket.specs.Places.{found_at}
use Rattle.journal.proofs.Turns.{low_at}
use Rattle.journal.proofs.least.Given as goal

abbrev pub invariant-loop-i : goal.invariant-loop-i
invariant-loop-i l = (l.best ≤ l.i) × (l.low ≡ low_at l.slice l.best) × (runs is_data (sectors 0 l.slice l.i (l.used - l.i)) ≡ true)
    × (weigh (above_at l.x l.t) (sectors 0 l.slice l.i (l.used - l.i)) (found_at l.slice l.best) ≡ weigh (above_at l.x l.t) (sectors 0 l.slice 0 l.used) None)
