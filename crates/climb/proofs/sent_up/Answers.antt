-- `climb::sent_up` makes what a rewritten level hands on.
use mathlib.Core.Path.{ap, sym, subst}
use Prim.Native.Nat.{ℕ, ◌+◌}
use native.Mathlib.Omega.{arith}
use Rattle.level.specs.Level.{AllSmall}
use Rattle.climb.proofs.Counting.{pairs_small}
use Rattle.climb.proofs.sent_up.Goals as goal

pub returns : goal.returns
returns c =
    let p = c.pairs.ensures in
    let n = c.fresh_needed.ensures in
    record {
      pairs = p;
      next = ap (λ (k : ℕ). c.args.fresh + k) n.0;
      most = omega (arith, n.2);
      small = subst AllSmall (sym p) (pairs_small c.args.stamp c.args.limit c.args.fresh c.args.entries.now);
    }
