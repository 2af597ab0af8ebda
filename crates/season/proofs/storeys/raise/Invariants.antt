-- `storeys::raise` lays an index level down. The pairs left, on the card as it is, give what all give on the card that came.
use mathlib.Core.Path.{◌≡◌}
use Prim.Native.Nat.{◌-◌}
use lib.ListN.{length}
use Rattle.season.specs.Storeys.{raised}
use Rattle.season.proofs.storeys.raise.Given as goal

abbrev pub invariant-loop-j : goal.invariant-loop-j
invariant-loop-j l = (length l.target ≡ length l.initial.target) × (raised l.head l.stamp l.q l.b l.i l.j (l.count - l.j) l.target ≡ raised l.head l.stamp l.q l.b l.i 0 l.count l.initial.target)
