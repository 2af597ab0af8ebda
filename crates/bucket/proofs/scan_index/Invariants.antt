-- What is left from sector i on, with the entry whose rank is kept, gives what the whole scan gives.
use Prim.Native.Nat.{ℕ, ◌≤◌, ◌+◌, ◌*◌, ◌-◌}
use mathlib.Core.Path.{◌≡◌}
use mathlib.Core.Bool.{true}
use Rattle.std.specs.Prelude.{None}
use Rattle.scan.specs.Scan.{sectors, scan_in, pick}
use Rattle.bucket.specs.Places.{found_at, key_at, index_fits}
use Rattle.bucket.proofs.scan_index.Given as goal

abbrev pub invariant-loop-i : goal.invariant-loop-i
invariant-loop-i l = (hit : ℕ) × (hit ≤ l.i) × (l.best ≡ 64 * key_at l.part hit + hit) × (scan_in (index_fits l.header) (pick true l.x l.t) (sectors l.n l.part l.i (l.count - l.i)) (found_at l.part hit) ≡ scan_in (index_fits l.header) (pick true l.x l.t) (sectors l.n l.part 0 l.count) None)
