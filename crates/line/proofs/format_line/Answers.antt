-- `line::format_line` reads a line of a format as the rules do.
use mathlib.Core.Path.{refl}
use Rattle.rules.specs.Calls.{format_call}
use Rattle.rules.specs.Bench.{text, format_names}
use Rattle.line.proofs.Requests.{four-made}
use Rattle.line.proofs.format_line.Goals as goal

pub returns-in_err-buckets : goal.returns-in_err-buckets
unfolding text format_names
returns-in_err-buckets c = rw (c.from_residual.ensures, c.in_err-buckets.ensures)

pub returns : goal.returns
unfolding text format_names
returns c = four-made format_names _ format_call _ refl c.in_ok-buckets.ensures
