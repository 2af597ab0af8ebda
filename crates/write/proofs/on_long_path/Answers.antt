-- `write::on_long_path`: a path of 4,096 places has enough.
use native.Mathlib.Omega.{arith}
use Rattle.bucket.proofs.Room.{shape_of}
use Rattle.write.proofs.on_long_path.Goals as goal

pub unreachable-requires : goal.unreachable-requires
unreachable-requires c =
    let tried = rw (c.in-Err-Deep.is, c.in-Err-Deep.field-0-is) at c.on_path.ensures in
    omega (arith, tried.1, (shape_of c.args.card.now c.args.head c.requires.head).lim.n4096)
