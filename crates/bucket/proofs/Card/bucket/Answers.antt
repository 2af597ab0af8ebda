-- A bucket is the first of the rest that it begins.
use native.Mathlib.Omega.{arith}
use lib.ListN.{length-take}
use Rattle.scan.specs.Look.{part_of}
use Rattle.bucket.proofs.Card.bucket.Goals as goal

pub returns : goal.returns
unfolding part_of
returns c =
    let rest = c.from_bucket.ensures in
    (rw rest.0, simp length-take (omega arith))
