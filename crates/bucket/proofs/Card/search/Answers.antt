-- `bucket::Card::search` meets its contract: the search of bucket b of the card.
use Rattle.laws.proofs.Heads.{bucket-fits}
use Rattle.scan.proofs.Parts.{search-part}
use Rattle.bucket.proofs.Card.search.Goals as goal

pub returns : goal.returns
returns c =
    let a = c.args in
    let card = a.self.now in
    let fits = bucket-fits card.head card.bytes.now a.b card.shape.long c.requires.0 c.requires.1 in
    rw (c.search_part.ensures, c.bucket.ensures.0)
    (search-part card.head card.bytes.now a.key a.stamp a.b a.header c.requires.0 fits)
