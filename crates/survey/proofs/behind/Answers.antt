-- `survey::behind`: the first buckets end on the card.
use mathlib.Core.Path.{refl}
use native.Mathlib.Omega.{arith}
use Rattle.survey.proofs.Stamps.{area-room}
use Rattle.survey.proofs.behind.Goals as goal

pub overflow_mul-result : goal.overflow_mul-result
overflow_mul-result c = let card = c.args.card.now in omega (arith, (area-room card.head card.bytes.now c.args.last card.shape c.requires).0)

pub overflow_add-result-2 : goal.overflow_add-result-2
overflow_add-result-2 c = let card = c.args.card.now in omega (arith, (area-room card.head card.bytes.now c.args.last card.shape c.requires).0, card.shape.lim.n4096)

pub returns : goal.returns
returns c = let card = c.args.card.now in (refl, (area-room card.head card.bytes.now c.args.last card.shape c.requires).1)
