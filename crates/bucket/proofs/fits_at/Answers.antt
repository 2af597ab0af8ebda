-- `bucket::fits_at`: the sector read holds an entry that fits, or none.
use mathlib.Core.Path.{ap, ◌∙◌}
use Rattle.scan.specs.Back.{holds}
use Rattle.scan.proofs.Back.{no-entry}
use Rattle.bucket.specs.Places.{data_fits}
use Rattle.bucket.proofs.fits_at.Goals as goal

pub returns-in_default : goal.returns-in_default
returns-in_default c =
    let fits = data_fits c.args.header in
    no-entry fits _ c.in_default.not-Held ∙ ap (holds fits) c.at.ensures

pub returns-in-Held : goal.returns-in-Held
unfolding holds
returns-in-Held c = c.data_fits.ensures ∙ ap (holds (data_fits c.args.header)) c.in-Held.ensures
