-- `storeys::raise` lays an index level down. The pairs left, on the card as it is, give what all give on the card that came.
use borrow.Author.Rules.{rules}
use native.Mathlib.Omega.{arith}
use Rattle.season.proofs.Turns.{pair-kind, raised-more}
use Rattle.season.proofs.storeys.raise.Goals as goal

pub write_entry-requires : goal.write_entry-requires
write_entry-requires c =
    let e = c.spot-sector.ensures in
    let p = c.pair_on-e.ensures in
    let l = c.loop-j in
    let k = c.requires.1.lies l.j (omega arith) in
    (omega (arith, l.invariant.0), pair-kind _ _ _ _ _ p)

pub loop-j-preserved : goal.loop-j-preserved
loop-j-preserved c =
    let w = c.write_entry.ensures in
    let e = c.spot-sector.ensures in
    let p = c.pair_on-e.ensures in
    let l = c.loop-j in
    let a = c.args in
    (search rules, raised-more a.head a.stamp a.q a.b a.i a.count l.j _ l.target l.invariant.1 _ (omega arith) (rw (e, p) at w))
