-- The root entry that was found is where the walk starts; it names a bucket of the card.
use mathlib.Core.Path.{sym, ◌∙◌}
use Rattle.std.proofs.lemmas.Result.{err_from_is_err_and}
use Rattle.scan.specs.Look.{trip_from}
use Rattle.scan.proofs.Parts.{root-found}
use Rattle.walk.proofs.walk.Goals as goal

pub returns-in_err-root : goal.returns-in_err-root
unfolding trip_from
returns-in_err-root c =
    let p = err_from_is_err_and c.from_residual.result c.from_residual.ensures.1 in
    rw (p.1, ← c.root_at.ensures, c.in_err-root.was)

pub descend-requires : goal.descend-requires
descend-requires c =
    let card = c.args.card.now in
    root-found card.head.n card.bytes.now c.args.stamp 1 card.head.n _ (sym c.root_at.ensures ∙ c.in_ok-root.was)

pub returns : goal.returns
unfolding trip_from
returns c = rw (← c.root_at.ensures, c.in_ok-root.was) c.descend.ensures
