-- `serve::bench::Bench::serve` answers what the rules answer to the whole input.
use Prim.Native.Nat.{◌<◌}
use native.Mathlib.Omega.{arith}
use lib.ListN.{length}
use Rattle.std.proofs.lemmas.Result.{on_ok_weaker}
use Rattle.serve.proofs.Known.{along-on, along-done}
use Rattle.serve.proofs.bench.Bench.serve.Goals as goal

pub returns-then-n-eq0 : goal.returns-then-n-eq0
returns-then-n-eq0 g c =
    let read = c.in_ok-n.ensures.bytes in
    record {
      told = λ room.
          let wide : 0 < length c.read.new.buf = omega arith in
          on_ok_weaker c.finish.result (along-done _ _ _ _ _ _ _ _ c.loop.invariant (rw c.if-n-eq0.true at read.0) (read.1 c.if-n-eq0.true wide)) c.finish.ensures;
    }

pub loop-preserved : goal.loop-preserved
loop-preserved g c =
    let k = c.in_ok-chunk.ensures in
    along-on _ _ _ _ _ _ _ _ _ _ _ c.loop.invariant c.in_ok-n.ensures.bytes.0 k.out_after k.fed_after
