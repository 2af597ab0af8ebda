-- `write::strike` equals the rule for every card and number.
use native.Mathlib.Omega.{arith}
use Rattle.laws.proofs.Entries.{strike-asks}
use Rattle.rules.specs.Write.{strike}
use Rattle.write.proofs.strike.Goals as goal

pub enter-requires : goal.enter-requires
enter-requires c = let a = c.args in rw c.strike.ensures (strike-asks a.bib a.at (omega arith) (omega arith))

pub returns : goal.returns
unfolding strike
returns c = rw (← c.strike.ensures) c.enter.ensures
