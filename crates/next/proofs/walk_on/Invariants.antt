-- With f walks left from x on the answer is that of all walks; x rises, so f is never spent.
use Prim.Native.Nat.{ℕ, ◌≤◌, ◌+◌, ◌-◌}
use mathlib.Core.Path.{◌≡◌}
use Rattle.scan.specs.Next.{rounds}
use Rattle.next.proofs.walk_on.Given as goal

abbrev pub invariant-loop-e : goal.invariant-loop-e
invariant-loop-e l = let card = l.card in (f : ℕ) × (4294967296 ≤ l.x + f) × (l.x ≤ 4294967295) × (rounds card.head card.bytes.now l.k l.t f l.x ≡ rounds card.head card.bytes.now l.k l.t 4294967296 l.k)

abbrev pub decreases-loop-e : goal.decreases-loop-e
decreases-loop-e l = 4294967296 - l.x
