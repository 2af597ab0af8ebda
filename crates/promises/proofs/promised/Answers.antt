-- `promises::promised` meets its contract: every promise has its term.
use Rattle.promises.proofs.Kept.{all-kept}
use Rattle.promises.proofs.promised.Goals as goal

pub returns : goal.returns
returns c = all-kept
