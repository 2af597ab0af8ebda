-- `next::asks::least_above`: in an index bucket every entry is one of an index.
use mathlib.Core.Path.{ap, ◌∙◌}
use Rattle.scan.specs.Next.{nearer}
use Rattle.scan.proofs.Judged.{index-least}
use Rattle.next.proofs.asks.least_above.Goals as goal

pub returns : goal.returns
returns c =
    c.nearer.ensures ∙ ap (nearer c.args.up) c.least.ensures ∙ index-least c.args.x c.args.t _ c.args.up c.requires.2
