-- `serve::run` begins with a buffer of zeros.
use mathlib.Core.Path.{refl}
use Rattle.session.proofs.Buffers.{blank-buffer}
use Rattle.serve.proofs.run.Goals as goal

pub invariant_of-bench : goal.invariant_of-bench
invariant_of-bench g c = record { holds = blank-buffer 65536 refl }
