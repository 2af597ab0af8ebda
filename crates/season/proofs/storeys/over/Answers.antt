-- `storeys::over` counts the buckets that so many entries fill.
use mathlib.Core.Path.{◌∙◌}
use Rattle.season.proofs.Counts.{over-ceil}
use Rattle.season.proofs.storeys.over.Goals as goal

pub returns : goal.returns
returns c = c.div_ceil.ensures ∙ over-ceil c.args.q c.args.c c.requires.0
