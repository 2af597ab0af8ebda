-- `line::look_line` reads a line of a look as the rules do.
use mathlib.Core.Path.{refl}
use Rattle.rules.specs.Calls.{look_call}
use Rattle.rules.specs.Bench.{text, look_names}
use Rattle.line.proofs.Requests.{two-made}
use Rattle.line.proofs.look_line.Goals as goal

pub returns-in_err-bib : goal.returns-in_err-bib
unfolding text look_names
returns-in_err-bib c = rw (c.from_residual.ensures, c.in_err-bib.ensures)

pub returns : goal.returns
unfolding text look_names
returns c = two-made look_names _ look_call _ refl c.in_ok-bib.ensures
