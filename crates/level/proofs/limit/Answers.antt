-- `level::limit` takes TI or TD by the kind of the first sector.
use Rattle.level.proofs.Turns.{limit-index, limit-data}
use Rattle.level.proofs.limit.Goals as goal

pub returns-then-part : goal.returns-then-part
returns-then-part c = limit-index c.args.head c.args.part.now c.args.used c.requires.1 c.if-part.true

pub returns-else-part : goal.returns-else-part
returns-else-part c = limit-data c.args.head c.args.part.now c.args.used c.requires.1 c.if-part.false
