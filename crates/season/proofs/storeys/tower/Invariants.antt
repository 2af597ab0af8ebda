-- `storeys::tower` builds the index levels. Those left, on the card as it is, give what all give on the card that came.
use mathlib.Core.Path.{◌≡◌}
use Prim.Native.Nat.{◌≤◌}
use lib.ListN.{length}
use Rattle.season.specs.Storeys.{tiers}
use Rattle.season.proofs.Turns.{Rest}
use Rattle.season.proofs.storeys.tower.Given as goal

abbrev pub invariant-loop-head : goal.invariant-loop-head
invariant-loop-head l = (1 ≤ l.b) × (1 ≤ l.c) × (length l.target ≡ length l.initial.target) × Rest l.head l.stamp l.q l.b l.c (tiers l.head l.stamp l.q l.count l.first l.count l.initial.target) l.target

abbrev pub decreases-loop-head : goal.decreases-loop-head
decreases-loop-head l = l.c
