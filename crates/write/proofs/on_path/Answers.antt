-- `write::on_path` judges a card whose head was read.
use Rattle.bucket.proofs.Room.{shape_of}
use Rattle.write.proofs.on_path.Goals as goal

pub invariant_of-judge : goal.invariant_of-judge
invariant_of-judge g c = record { shape = shape_of c.args.card.now c.args.head c.requires.0.head }
