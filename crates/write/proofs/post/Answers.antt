-- `write::post` equals the rule for every card and number.
use native.Mathlib.Omega.{arith}
use Rattle.laws.proofs.Entries.{post-asks}
use Rattle.rules.specs.Write.{post}
use Rattle.write.proofs.post.Goals as goal

pub enter-requires : goal.enter-requires
enter-requires c = let a = c.args in rw c.post.ensures (post-asks a.bib a.at a.status a.time (omega arith) (omega arith) (omega arith))

pub returns : goal.returns
unfolding post
returns c = rw (← c.post.ensures) c.enter.ensures
