-- `line::strike_line` reads a line of a strike as the rules do.
use mathlib.Core.Path.{refl}
use Rattle.rules.specs.Calls.{strike_call}
use Rattle.rules.specs.Bench.{text, strike_names}
use Rattle.line.proofs.Requests.{two-made}
use Rattle.line.proofs.strike_line.Goals as goal

pub returns-in_err-bib : goal.returns-in_err-bib
unfolding text strike_names
returns-in_err-bib c = rw (c.from_residual.ensures, c.in_err-bib.ensures)

pub returns : goal.returns
unfolding text strike_names
returns c = two-made strike_names _ strike_call _ refl c.in_ok-bib.ensures
