-- `next::arrive` meets its contract: where a walk ends, in the data bucket b: the bib that is next, or the index key to walk to.
use mathlib.Core.Path.{◌≡◌, ap, sym, ◌∙◌}
use Rattle.std.specs.Prelude.{Option, None}
use Rattle.rules.specs.declared.Entry.{Entry}
use Rattle.laws.proofs.Heads.{bucket-fits}
use Rattle.scan.specs.Next.{stand_in, sectors_of, leg_of}
use Rattle.scan.proofs.Parts.{part-sectors}
use Rattle.next.proofs.arrive.Goals as goal
use Rattle.next.proofs.arrive.Goals.{After-standing}

-- the part has the bucket's sectors
pub standing-requires : goal.standing-requires
standing-requires c =
    let card = c.args.card.now in
    let fits = bucket-fits card.head card.bytes.now c.args.b card.shape.long c.requires.0 c.requires.1 in
    (c.bucket.ensures.1, card.shape.lim.m32, rw (c.bucket.ensures.0, part-sectors card.head card.bytes.now c.args.b fits) c.requires.2)

found : (q : After-standing) → q.standing.result ≡ stand_in q.args.k q.args.t (sectors_of q.args.card.now.head q.args.card.now.bytes.now q.args.b) None
found q =
    let card = q.args.card.now in
    let fits = bucket-fits card.head card.bytes.now q.args.b card.shape.long q.requires.0 q.requires.1 in
    rw (q.bucket.ensures.0, part-sectors card.head card.bytes.now q.args.b fits) at q.standing.ensures

pub returns-in-Some : goal.returns-in-Some
unfolding leg_of
returns-in-Some c = ap (λ (f : Option Entry). leg_of f c.args.up) (sym c.in-Some.is ∙ found (goal.at.returns-in-Some c).After-standing)

pub returns-in-None : goal.returns-in-None
unfolding leg_of
returns-in-None c = ap (λ (f : Option Entry). leg_of f c.args.up) (sym c.in-None.is ∙ found (goal.at.returns-in-None c).After-standing)
