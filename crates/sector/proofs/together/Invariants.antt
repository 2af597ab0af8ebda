-- The bits put together are of the bytes before i; what is behind them is still to be asked.
use Rattle.std.proofs.Common.{◌≡◌, eqb}
use Rattle.rules.specs.Plain.{◌&◌}
use Rattle.sector.proofs.Zeros.{four}
use Rattle.sector.proofs.together.Given as goal

abbrev pub invariant-loop-i : goal.invariant-loop-i
invariant-loop-i l = (eqb l.bits 0 & four l.a l.b l.c l.d l.i) ≡ four l.a l.b l.c l.d 0
