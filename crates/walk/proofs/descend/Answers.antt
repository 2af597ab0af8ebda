-- What is left of the walk from bucket b, with the buckets counted so far, gives what the whole walk gives.
use Prim.Native.Nat.{◌+◌, ◌-◌}
use mathlib.Core.Path.{◌≡◌, ap, ◌∙◌}
use native.Mathlib.Nat.{sub-zero}
use native.Mathlib.Omega.{arith}
use Rattle.std.specs.Prelude.{Ok}
use Rattle.std.proofs.lemmas.Result.{err_from_is_err_and}
use Rattle.scan.specs.declared.Way.TheVariants.{Down, End}
use Rattle.scan.specs.Look.{onward, walk_scan}
use Rattle.scan.proofs.Loops.{walk_turn, walk-out}
use Rattle.scan.proofs.Parts.{down-inside}
use Rattle.walk.proofs.descend.Goals as goal
use Rattle.walk.proofs.descend.Goals.{After-search}

pub loop-reads-init : goal.loop-reads-init
loop-reads-init c = (c.requires.0, c.requires.1, rw sub-zero)

pub search-requires : goal.search-requires
search-requires c = (c.loop-reads.invariant.0, c.loop-reads.invariant.1)

pub returns : goal.returns
returns c =
    let card = c.args.card.now in
    walk-out card.head card.bytes.now c.args.key c.args.stamp c.loop-reads.reads _ _ _ (omega (arith, c.loop-reads-test.false, c.loop-reads.auto.reads-end)) c.loop-reads.invariant.2

-- what the bucket's search says of the whole walk
turn_at : (q : After-search) →
    let a = q.args in
    let card = a.card.now in
    let count = q.loop-reads.reads + 1 in
    onward q.search.result count (walk_scan card.head card.bytes.now a.key a.stamp (card.head.n - count) count)
    ≡ walk_scan card.head card.bytes.now a.key a.stamp card.head.n 0 a.root 0
turn_at q =
    let card = q.args.card.now in
    walk_turn card.head card.bytes.now q.args.key q.args.stamp q.loop-reads.reads _ _ _ _ q.loop-reads-test.true q.search.ensures q.loop-reads.invariant.2

pub returns-in_err-e : goal.returns-in_err-e
unfolding onward
returns-in_err-e c =
    let p = err_from_is_err_and c.from_residual.result c.from_residual.ensures.1 in
    p.1 ∙ (rw c.in_err-e.was at (turn_at (goal.at.returns-in_err-e c).After-search))

pub loop-reads-preserved : goal.loop-reads-preserved
unfolding onward
loop-reads-preserved c =
    let card = c.args.card.now in
    let down : c.search.result ≡ Ok (Down c.in-Down.e) = c.in_ok-e.was ∙ ap Ok c.in-Down.is in
    let inside = down-inside card.head card.bytes.now c.args.key c.args.stamp c.loop-reads.b c.loop-reads.header _ _ c.search.ensures down in
    (inside.0, inside.1, rw down at (turn_at (goal.at.loop-reads-preserved c).After-search))

pub returns-in-End : goal.returns-in-End
unfolding onward
returns-in-End c =
    let end : c.search.result ≡ Ok (End c.in-End.copy) = c.in_ok-e.was ∙ ap Ok c.in-End.is in
    rw end at (turn_at (goal.at.returns-in-End c).After-search)
