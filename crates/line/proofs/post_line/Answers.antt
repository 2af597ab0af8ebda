-- `line::post_line` reads a line of a post as the rules do.
use mathlib.Core.Path.{refl}
use Rattle.rules.specs.Calls.{post_call}
use Rattle.rules.specs.Bench.{text, post_names}
use Rattle.line.proofs.Requests.{four-made}
use Rattle.line.proofs.post_line.Goals as goal

pub returns-in_err-bib : goal.returns-in_err-bib
unfolding text post_names
returns-in_err-bib c = rw (c.from_residual.ensures, c.in_err-bib.ensures)

pub returns : goal.returns
unfolding text post_names
returns c = four-made post_names _ post_call _ refl c.in_ok-bib.ensures
