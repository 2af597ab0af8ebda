-- A strike's numbers are those of a call.
use native.Mathlib.Omega.{arith}
use Rattle.laws.proofs.Entries.{strike-asks}
use Rattle.journal.proofs.strike.Goals as goal

pub enter-requires : goal.enter-requires
enter-requires c = let a = c.args in rw c.strike.ensures (strike-asks a.bib a.at (omega arith) (omega arith))
