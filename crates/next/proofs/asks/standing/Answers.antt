-- `next::asks::standing`: the bib that stands next above x is the one that stands next above k; x rises.
use borrow.Author.Rules.{rules}
use mathlib.Core.Path.{refl, sym, ◌∙◌}
use native.Mathlib.Omega.{arith}
use Rattle.rules.specs.Sector.{is_data}
use Rattle.scan.specs.Scan.{sectors}
use Rattle.scan.proofs.Judged.{none-next, next-rises, post-next, strike-next}
use Rattle.next.proofs.asks.standing.Goals as goal

pub least-requires : goal.least-requires
least-requires c = (c.requires.0, c.requires.1, (is_data, c.requires.2))

pub loop-e-smaller : goal.loop-e-smaller
loop-e-smaller c =
    let up = next-rises is_data (sectors c.args.n c.args.part.now 0 c.args.m) c.requires.2 c.loop-e.x c.args.t _ _ c.least.ensures c.in-Some.is in
    omega (arith, up, c.loop-e.invariant.0)

pub loop-e-preserved : goal.loop-e-preserved
loop-e-preserved c =
    let again = strike-next is_data (sectors c.args.n c.args.part.now 0 c.args.m) c.requires.2 c.loop-e.x c.args.t _ _ c.least.ensures c.in-Some.is (sym c.if-posted.ensures) in
    (search rules, sym again ∙ c.loop-e.invariant.1)

pub returns : goal.returns
returns c = none-next is_data (sectors c.args.n c.args.part.now 0 c.args.m) c.requires.2 c.loop-e.x c.args.t _ c.least.ensures c.in_default.is ∙ c.loop-e.invariant.1

pub returns-then-posted : goal.returns-then-posted
returns-then-posted c =
    post-next is_data (sectors c.args.n c.args.part.now 0 c.args.m) c.requires.2 c.loop-e.x c.args.t _ _ c.least.ensures c.in-Some.is (sym c.if-posted.ensures) ∙ c.loop-e.invariant.1

pub loop-e-init : goal.loop-e-init
loop-e-init c = (search rules, refl)
