-- `next::asks::standing`: the bib that stands next above x is the one that stands next above k; x rises.
use mathlib.Core.Path.{◌≡◌}
use Prim.Native.Nat.{◌-◌, ◌≤◌}
use Rattle.std.specs.Prelude.{None}
use Rattle.scan.specs.Scan.{sectors}
use Rattle.scan.specs.Next.{stand_in}
use Rattle.next.proofs.asks.standing.Given as goal

abbrev pub invariant-loop-e : goal.invariant-loop-e
invariant-loop-e l = (l.x ≤ 4294967295) × (stand_in l.x l.t (sectors l.n l.part 0 l.m) None ≡ stand_in l.k l.t (sectors l.n l.part 0 l.m) None)

abbrev pub decreases-loop-e : goal.decreases-loop-e
decreases-loop-e l = 4294967296 - l.x
