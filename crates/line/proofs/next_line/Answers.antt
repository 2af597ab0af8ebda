-- `line::next_line` reads a line of a next as the rules do.
use mathlib.Core.Path.{refl}
use Rattle.rules.specs.Calls.{next_call}
use Rattle.rules.specs.Bench.{text, next_names}
use Rattle.line.proofs.Requests.{two-made}
use Rattle.line.proofs.next_line.Goals as goal

pub returns-in_err-bib : goal.returns-in_err-bib
unfolding text next_names
returns-in_err-bib c = rw (c.from_residual.ensures, c.in_err-bib.ensures)

pub returns : goal.returns
unfolding text next_names
returns c = two-made next_names _ next_call _ refl c.in_ok-bib.ensures
