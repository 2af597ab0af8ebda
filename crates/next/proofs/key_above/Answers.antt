-- `next::key_above` meets its contract: the least index key above x, with bucket b's.
use Rattle.laws.proofs.Heads.{bucket-fits}
use Rattle.scan.proofs.Parts.{part-sectors}
use Rattle.next.proofs.key_above.Goals as goal

-- the part has the bucket's sectors
pub least_above-requires : goal.least_above-requires
least_above-requires c =
    let card = c.args.card.now in
    let fits = bucket-fits card.head card.bytes.now c.args.b card.shape.long c.requires.0 c.requires.1 in
    (c.bucket.ensures.1, card.shape.lim.m32, rw (c.bucket.ensures.0, part-sectors card.head card.bytes.now c.args.b fits) c.requires.2)

pub returns : goal.returns
returns c =
    let card = c.args.card.now in
    let fits = bucket-fits card.head card.bytes.now c.args.b card.shape.long c.requires.0 c.requires.1 in
    rw (c.bucket.ensures.0, part-sectors card.head card.bytes.now c.args.b fits) at c.least_above.ensures
