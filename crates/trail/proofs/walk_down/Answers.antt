-- `trail::walk_down` starts at the root.
use mathlib.Core.Path.{refl, subst}
use native.Mathlib.Omega.{arith}
use lib.ListN.{length}
use Rattle.trail.specs.Trail.{Went}
use Rattle.trail.proofs.Tracks.{root-within, from-none, from-root}
use Rattle.trail.proofs.walk_down.Goals as goal

pub returns-then-root-eq0 : goal.returns-then-root-eq0
returns-then-root-eq0 c =
    let card = c.args.card.now in
    record { long = refl; ends = from-none card.head card.bytes.now c.args.key c.args.root c.if-root-eq0.true }

pub descend-requires : goal.descend-requires
descend-requires c =
    let card = c.args.card.now in
    (omega (arith, c.if-root-eq0.false), omega (arith, c.requires, root-within card.head card.bytes.now))

pub returns : goal.returns
returns c =
    let card = c.args.card.now in
    subst (Went _ (length c.args.path.now) card.head.n _) (from-root card.head card.bytes.now c.args.key c.args.root) c.descend.ensures
