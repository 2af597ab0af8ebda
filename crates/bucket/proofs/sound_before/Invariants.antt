-- The sectors left are sound exactly where all before the i-th are.
use mathlib.Core.Path.{◌≡◌}
use Rattle.scan.specs.Back.{last_first, sound}
use Rattle.bucket.specs.Places.{data_fits}
use Rattle.bucket.proofs.sound_before.Given as goal

abbrev pub invariant-loop-j : goal.invariant-loop-j
invariant-loop-j l = sound (data_fits l.header) (last_first l.n l.part l.j) ≡ sound (data_fits l.header) (last_first l.n l.part l.i)
