-- What is left of the walk from bucket b, with the least key so far, gives what the whole walk gives.
use Prim.Native.Nat.{◌+◌, ◌-◌}
use mathlib.Core.Path.{◌≡◌, ap, ◌∙◌}
use native.Mathlib.Nat.{sub-zero}
use native.Mathlib.Omega.{arith}
use Rattle.std.specs.Prelude.{None, Ok}
use Rattle.std.proofs.lemmas.Result.{err_from_is_err_and}
use Rattle.scan.specs.declared.Way.TheVariants.{Down}
use Rattle.scan.specs.Next.{pick_up, weigh, stand_in, sectors_of, leg_of, stride, leg_scan}
use Rattle.scan.proofs.Loops.{leg-turn, leg-out}
use Rattle.scan.proofs.Parts.{down-inside}
use Rattle.scan.proofs.Judged.{down-runs, end-runs}
use Rattle.next.proofs.walk_to.Goals as goal
use Rattle.next.proofs.walk_to.Goals.{After-search, In-Down}

pub loop-reads-init : goal.loop-reads-init
loop-reads-init c = (c.requires.0, c.requires.1, rw sub-zero)

pub search-requires : goal.search-requires
search-requires c = (c.loop-reads.invariant.0, c.loop-reads.invariant.1)

pub returns : goal.returns
returns c =
    let card = c.args.card.now in
    leg-out card.head card.bytes.now c.args.k c.args.x c.args.t c.loop-reads.reads _ _ _ _ (omega (arith, c.loop-reads-test.false, c.loop-reads.auto.reads-end)) c.loop-reads.invariant.2

-- what the bucket's search says of the whole walk
turn_at : (q : After-search) →
    let a = q.args in
    let card = a.card.now in
    let here = sectors_of card.head card.bytes.now q.loop-reads.b in
    stride q.search.result (leg_of (stand_in a.k a.t here None) q.loop-reads.up)
    (leg_scan card.head card.bytes.now a.k a.x a.t (card.head.n - (q.loop-reads.reads + 1)) (weigh (pick_up a.x a.t) here q.loop-reads.up))
    ≡ leg_scan card.head card.bytes.now a.k a.x a.t card.head.n None a.root 0
turn_at q =
    let card = q.args.card.now in
    leg-turn card.head card.bytes.now q.args.k q.args.x q.args.t q.loop-reads.reads _ _ _ _ _ q.loop-reads-test.true q.search.ensures q.loop-reads.invariant.2

pub returns-in_err-e : goal.returns-in_err-e
unfolding stride
returns-in_err-e c =
    let p = err_from_is_err_and c.from_residual.result c.from_residual.ensures.1 in
    p.1 ∙ (rw c.in_err-e.was at (turn_at (goal.at.returns-in_err-e c).After-search))

down : (q : In-Down) → q.search.result ≡ Ok (Down q.in-Down.e)
down q = q.in_ok-e.was ∙ ap Ok q.in-Down.is

pub loop-reads-preserved : goal.loop-reads-preserved
unfolding stride
loop-reads-preserved c =
    let card = c.args.card.now in
    let is = down (goal.at.loop-reads-preserved c).In-Down in
    let inside = down-inside card.head card.bytes.now c.args.x c.args.t c.loop-reads.b c.loop-reads.header _ _ c.search.ensures is in
    (inside.0, inside.1, rw c.key_above-up.ensures (rw is at (turn_at (goal.at.loop-reads-preserved c).After-search)))

-- what the search said of the bucket is what is asked of it
pub key_above-up-requires : goal.key_above-up-requires
key_above-up-requires c =
    let card = c.args.card.now in
    let runs = down-runs card.head card.bytes.now c.args.x c.args.t c.loop-reads.b c.loop-reads.header _ _ c.search.ensures (down (goal.at.key_above-up-requires c).In-Down) in
    (c.loop-reads.invariant.0, c.loop-reads.invariant.1, runs)

pub arrive-requires : goal.arrive-requires
arrive-requires c =
    let card = c.args.card.now in
    let runs = end-runs card.head card.bytes.now c.args.x c.args.t c.loop-reads.b c.loop-reads.header _ _ c.search.ensures (c.in_ok-e.was ∙ ap Ok c.in-End.is) in
    (c.loop-reads.invariant.0, c.loop-reads.invariant.1, runs)

pub returns-in-End : goal.returns-in-End
unfolding stride
returns-in-End c = rw c.arrive.ensures (rw (c.in_ok-e.was ∙ ap Ok c.in-End.is) at (turn_at (goal.at.returns-in-End c).After-search))
