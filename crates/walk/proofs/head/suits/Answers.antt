-- `walk::head::suits` meets its contract: whether a card of this length can have the geometry.
use mathlib.Core.Path.{sym}
use Rattle.laws.proofs.Heads.{limits-hold}
use Rattle.walk.proofs.head.suits.Goals as goal

pub has_size-requires : goal.has_size-requires
has_size-requires c = let lim = limits-hold _ (sym c.if-in_limits.ensures) in (lim.m32, lim.n4096)
