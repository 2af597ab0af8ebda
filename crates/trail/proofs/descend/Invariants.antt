-- `trail::descend` walks down and writes down what it meets. What is left of the walk, below what was met, gives what the whole gives.
use mathlib.Core.Path.{◌≡◌}
use mathlib.Core.List.{[]}
use Prim.Native.Nat.{◌-◌, ◌≤◌}
use lib.ListN.{length, drop}
use Rattle.trail.specs.Trail.{track_scan}
use Rattle.trail.proofs.descend.Given as goal

abbrev pub invariant-loop-above : goal.invariant-loop-above
invariant-loop-above l =
    let card = l.card in
    (l.above ≤ length l.initial.path) × (1 ≤ l.b) × (l.b ≤ card.head.n)
    × (track_scan card.head card.bytes.now l.key (card.head.n - l.above) (drop (length l.initial.path - l.above) l.path) l.b l.header ≡ track_scan card.head card.bytes.now l.key card.head.n [] l.root 0)
