-- With f walks left from x on the answer is that of all walks; x rises, so f is never spent.
use borrow.Author.Rules.{rules}
use Prim.Native.Nat.{◌<◌, ◌-◌}
use mathlib.Core.Path.{◌≡◌, refl, ap, sym, ◌∙◌}
use native.Mathlib.Omega.{arith}
use Rattle.std.specs.Prelude.{None, Some, Ok}
use Rattle.std.proofs.lemmas.Result.{err_from_is_err_and}
use Rattle.next.specs.Found.{told}
use Rattle.scan.specs.declared.Leg.TheVariants.{Stand, Over}
use Rattle.scan.specs.Next.{leg, after, rounds}
use Rattle.scan.proofs.Nexts.{leg-stands}
use Rattle.scan.proofs.Parts.{root-found}
use Rattle.next.proofs.Rounds.{leg-root, round-turn, round-rises}
use Rattle.next.proofs.walk_on.Goals as goal
use Rattle.next.proofs.walk_on.Goals.{After-walk_to, In-Over-Some}

pub loop-e-init : goal.loop-e-init
loop-e-init c = (4294967296, search rules, search rules, refl)

pub walk_to-requires : goal.walk_to-requires
walk_to-requires c = let card = c.args.card.now in root-found card.head.n card.bytes.now c.args.t 1 card.head.n _ c.requires

-- what was walked is the rule's walk
leg-at : (q : After-walk_to) → q.walk_to.result ≡ leg q.args.card.now.head q.args.card.now.bytes.now q.args.k q.args.t q.loop-e.x
leg-at q =
    let card = q.args.card.now in
    leg-root card.head card.bytes.now q.args.k q.args.t q.loop-e.x _ _ q.requires q.walk_to.ensures

-- and what it says of the answer
turn_at : (q : After-walk_to) →
    let a = q.args in
    let card = a.card.now in
    after q.walk_to.result (rounds card.head card.bytes.now a.k a.t (q.loop-e.invariant.0 - 1)) ≡ rounds card.head card.bytes.now a.k a.t 4294967296 a.k
turn_at q =
    let card = q.args.card.now in
    round-turn card.head card.bytes.now q.args.k q.args.t q.loop-e.x q.loop-e.invariant.0 _ _ (leg-at q) (omega (arith, q.loop-e.invariant.1, q.loop-e.invariant.2)) q.loop-e.invariant.3

pub returns-in_err-e-clause-answer : goal.returns-in_err-e-clause-answer
unfolding told after
returns-in_err-e-clause-answer c =
    let p = err_from_is_err_and c.from_residual.result c.from_residual.ensures.1 in
    ap told p.1 ∙ rw p.2 (rw c.in_err-e.was at (turn_at (goal.at.returns-in_err-e-clause-answer c).After-walk_to))

pub returns-in-Stand-clause-answer : goal.returns-in-Stand-clause-answer
unfolding told after
returns-in-Stand-clause-answer c =
    let stands : c.walk_to.result ≡ Ok (Stand c.in-Stand.e) = c.in_ok-e.was ∙ ap Ok c.in-Stand.is in
    rw stands at (turn_at (goal.at.returns-in-Stand-clause-answer c).After-walk_to)

-- and it is above k
pub returns-in-Stand-clause-above : goal.returns-in-Stand-clause-above
returns-in-Stand-clause-above c =
    let stands : c.walk_to.result ≡ Ok (Stand c.in-Stand.e) = c.in_ok-e.was ∙ ap Ok c.in-Stand.is in
    let card = c.args.card.now in
    leg-stands card.head card.bytes.now c.args.k c.args.t c.loop-e.x _ (sym (leg-at (goal.at.returns-in-Stand-clause-above c).After-walk_to) ∙ stands)

pub returns-in-Over-None-clause-answer : goal.returns-in-Over-None-clause-answer
unfolding told after
returns-in-Over-None-clause-answer c =
    let ends : c.walk_to.result ≡ Ok (Over None) = c.in_ok-e.was ∙ ap Ok (c.in-Over-None.is ∙ ap Over c.in-Over-None.field-0-is) in
    rw ends at (turn_at (goal.at.returns-in-Over-None-clause-answer c).After-walk_to)

-- another key, above the last
over : (q : In-Over-Some) → q.walk_to.result ≡ Ok (Over (Some q.in-Over-Some.e))
over q = q.in_ok-e.was ∙ ap Ok (q.in-Over-Some.is ∙ ap Over q.in-Over-Some.field-0-is)

rises : (q : In-Over-Some) → q.loop-e.x < q.in-Over-Some.e.key
rises q =
    let card = q.args.card.now in
    round-rises card.head card.bytes.now q.args.k q.args.t q.loop-e.x _ _
    (leg-root card.head card.bytes.now q.args.k q.args.t q.loop-e.x _ _ q.requires q.walk_to.ensures) (over q)

pub loop-e-smaller : goal.loop-e-smaller
loop-e-smaller c = omega (arith, rises (goal.at.loop-e-smaller c).In-Over-Some, c.loop-e.invariant.2)

pub loop-e-preserved : goal.loop-e-preserved
unfolding after
loop-e-preserved c =
    let q = (goal.at.loop-e-preserved c).In-Over-Some in
    (c.loop-e.invariant.0 - 1, omega (arith, rises q, c.loop-e.invariant.1), search rules, rw (over q) at (turn_at (goal.at.loop-e-preserved c).After-walk_to))
