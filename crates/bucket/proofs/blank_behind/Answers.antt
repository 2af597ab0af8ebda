-- `bucket::blank_behind`: sectors are blank where their bytes are zero.
use mathlib.Core.Path.{◌∙◌}
use Rattle.scan.proofs.Blanks.{rest-blank}
use Rattle.bucket.proofs.blank_behind.Goals as goal

pub returns : goal.returns
returns c =
    c.all_zero.ensures ∙ rest-blank c.args.n c.args.count c.args.i c.args.part.now c.requires.1 c.requires.0
