-- `next::asks::least`: what is left from sector i on, with the entry whose rank is kept, gives what the whole gives.
use mathlib.Core.Path.{◌≡◌}
use mathlib.Core.Bool.{Bool, true}
use Prim.Native.Nat.{ℕ, ◌-◌, ◌≤◌}
use Rattle.std.specs.Prelude.{None}
use Rattle.rules.specs.declared.Entry.{Entry}
use Rattle.scan.specs.Scan.{sectors}
use Rattle.scan.specs.Next.{above_at, weigh, runs}
use Rattle.bucket.specs.Places.{found_at}
use Rattle.next.proofs.Ranks.{Ranked}
use Rattle.next.proofs.asks.least.Given as goal

abbrev pub invariant-loop-i : goal.invariant-loop-i
invariant-loop-i l = ((ok : Entry → Bool) × (runs ok (sectors l.n l.part l.i (l.m - l.i)) ≡ true))
    × ((hit : ℕ) × (hit ≤ l.i) × Ranked l.part hit l.best × (weigh (above_at l.x l.t) (sectors l.n l.part l.i (l.m - l.i)) (found_at l.part hit) ≡ weigh (above_at l.x l.t) (sectors l.n l.part 0 l.m) None))
