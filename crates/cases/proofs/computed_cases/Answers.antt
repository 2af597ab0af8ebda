-- `cases::computed_cases` meets its contract: each list comes out as it is said to.
use Rattle.cases.proofs.Computed.{growing-passes, session-passes, session-rolls, seasons-pass}
use Rattle.cases.proofs.computed_cases.Goals as goal

pub returns : goal.returns
returns c = (growing-passes, session-passes, session-rolls, seasons-pass)
