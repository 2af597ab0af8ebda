-- `climb::first_sector` is where a bucket begins.
use Rattle.laws.proofs.Heads.{bucket-low}
use borrow.Author.Rules.{rules}
use mathlib.Core.Path.{refl}
use native.Mathlib.Omega.{arith}
use Rattle.rules.specs.Layout.{base}
use Rattle.climb.proofs.first_sector.Goals as goal

pub overflow_mul-result : goal.overflow_mul-result
overflow_mul-result c = let k = bucket-low c.args.head.m c.args.head.n c.args.b (search rules) (search rules) (search rules) in omega arith

pub overflow_add-result-2 : goal.overflow_add-result-2
overflow_add-result-2 c = let k = bucket-low c.args.head.m c.args.head.n c.args.b (search rules) (search rules) (search rules) in omega arith

pub returns : goal.returns
unfolding base
returns c = refl
