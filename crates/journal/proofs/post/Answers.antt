-- A post's numbers are those of a call.
use native.Mathlib.Omega.{arith}
use Rattle.laws.proofs.Entries.{post-asks}
use Rattle.journal.proofs.post.Goals as goal

pub enter-requires : goal.enter-requires
enter-requires c = let a = c.args in rw c.post.ensures (post-asks a.bib a.at a.status a.time (omega arith) (omega arith) (omega arith))
