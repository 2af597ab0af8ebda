-- `walk::head::has_size` meets its contract: the product is computed only for a head within the limits: it cannot wrap.
use native.Mathlib.Omega.{arith}
use Rattle.rules.specs.Layout.{size_of}
use Rattle.walk.proofs.Sizes.{size_fits}
use borrow.Author.Rules.{rules}
use Rattle.walk.proofs.head.has_size.Goals as goal

pub overflow_mul-result : goal.overflow_mul-result
overflow_mul-result c = let h = size_fits _ _ c.requires.0 c.requires.1 in omega arith

pub overflow_add-result-2 : goal.overflow_add-result-2
overflow_add-result-2 c = let h = size_fits _ _ c.requires.0 c.requires.1 in omega arith

pub overflow_mul-result-2 : goal.overflow_mul-result-2
overflow_mul-result-2 c = let h = size_fits _ _ c.requires.0 c.requires.1 in omega arith

pub returns : goal.returns
unfolding size_of
returns c = search rules
