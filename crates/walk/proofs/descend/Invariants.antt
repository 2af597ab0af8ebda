-- What is left of the walk from bucket b, with the buckets counted so far, gives what the whole walk gives.
use Prim.Native.Nat.{◌≤◌, ◌-◌}
use mathlib.Core.Path.{◌≡◌}
use Rattle.scan.specs.Look.{walk_scan}
use Rattle.walk.proofs.descend.Given as goal

abbrev pub invariant-loop-reads : goal.invariant-loop-reads
invariant-loop-reads l = let card = l.card in (1 ≤ l.b) × (l.b ≤ card.head.n) × (walk_scan card.head card.bytes.now l.key l.stamp (card.head.n - l.reads) l.reads l.b l.header ≡ walk_scan card.head card.bytes.now l.key l.stamp card.head.n 0 l.root 0)
