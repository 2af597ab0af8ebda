-- What is left of the walk from bucket b, with the least key so far, gives what the whole walk gives.
use Prim.Native.Nat.{◌≤◌, ◌-◌}
use mathlib.Core.Path.{◌≡◌}
use Rattle.std.specs.Prelude.{None}
use Rattle.scan.specs.Next.{leg_scan}
use Rattle.next.proofs.walk_to.Given as goal

abbrev pub invariant-loop-reads : goal.invariant-loop-reads
invariant-loop-reads l = let card = l.card in (1 ≤ l.b) × (l.b ≤ card.head.n) × (leg_scan card.head card.bytes.now l.k l.x l.t (card.head.n - l.reads) l.up l.b l.header ≡ leg_scan card.head card.bytes.now l.k l.x l.t card.head.n None l.root 0)
