-- `climb::write_new` fills one fresh bucket.
use mathlib.Core.Path.{sym, ◌∙◌}
use mathlib.Core.List.{[]}
use native.Mathlib.Omega.{arith}
use Rattle.laws.proofs.Heads.{bucket-fits}
use Rattle.climb.proofs.Laying.{into-puts}
use Rattle.climb.proofs.write_new.Goals as goal

pub first_sector-requires : goal.first_sector-requires
first_sector-requires c = let f = c.requires.fresh in (f.0.lim.m32, f.0.lim.n4096, f.1, f.2)

pub write_run-requires : goal.write_run-requires
write_run-requires c =
    let f = c.requires.fresh in
    let fits = bucket-fits c.args.head c.args.card.now c.args.b f.0.long f.1 f.2 in
    (omega (arith, fits, c.first_sector.ensures, c.requires.fits.0), c.requires.fits.1)

pub returns : goal.returns
returns c =
    c.write_run.ensures
    ∙ sym (into-puts _ _ _ [] _ _ c.requires.fresh.3 (omega (arith, c.requires.fits.0)) (omega (arith, c.first_sector.ensures)))
