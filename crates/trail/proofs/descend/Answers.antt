-- `trail::descend` walks down and writes down what it meets. What is left of the walk, below what was met, gives what the whole gives.
use mathlib.Core.Path.{◌≡◌, ap, ◌∙◌}
use mathlib.Core.List.{List, []}
use Prim.Native.Nat.{ℕ, ◌+◌, ◌-◌}
use native.Mathlib.Nat.{sub-zero}
use native.Mathlib.Omega.{arith}
use lib.ListN.{length, drop, set, length-set, drop_of_length-le}
use Rattle.std.specs.Prelude.{Ok}
use Rattle.std.proofs.lemmas.Result.{err_from_is_err_and}
use Rattle.scan.specs.declared.Way.TheVariants.{Down, End}
use Rattle.scan.proofs.Parts.{down-inside}
use Rattle.trail.specs.Trail.{track_on, track_scan}
use Rattle.trail.proofs.Tracks.{track-out, track-turn}
use Rattle.trail.proofs.descend.Goals as goal
use Rattle.trail.proofs.descend.Goals.{After-search}

pub loop-above-init : goal.loop-above-init
loop-above-init c =
    let path = c.args.path.now in
    (omega arith, c.requires.0, c.requires.1, rw (sub-zero, sub-zero, drop_of_length-le path {i = length path} (omega arith)))

pub overflow_sub-start : goal.overflow_sub-start
overflow_sub-start c = omega (arith, c.loop-above.invariant.0, c.if-above-places.false)

pub bounds-path-start : goal.bounds-path-start
bounds-path-start c = omega (arith, c.loop-above.invariant.0, c.if-above-places.false, c.loop-above.auto.path)

pub search-requires : goal.search-requires
search-requires c = (c.loop-above.invariant.1, c.loop-above.invariant.2)

-- the lent path, with the bucket written down
abbrev met : After-search → List ℕ
met q = set q.loop-above.path (length q.args.path.now - (q.loop-above.above + 1)) q.loop-above.b

as_lent : (q : After-search) → length (met q) ≡ length q.args.path.now
as_lent q = simp length-set q.loop-above.auto.path

-- what the search said of the whole walk
turn_at : (q : After-search) →
    let a = q.args in
    let card = a.card.now in
    let above = drop (length a.path.now - (q.loop-above.above + 1)) (met q) in
    track_on q.search.result above (track_scan card.head card.bytes.now a.key (card.head.n - (q.loop-above.above + 1)) above)
    ≡ track_scan card.head card.bytes.now a.key card.head.n [] a.root 0
turn_at q =
    let card = q.args.card.now in
    let l = q.loop-above in
    track-turn card.head card.bytes.now q.args.key l.above l.b l.header (length q.args.path.now) l.path _ _
    q.loop-above-test.true (omega (arith, l.invariant.0, q.if-above-places.false)) l.auto.path q.search.ensures l.invariant.3

pub returns : goal.returns
returns c =
    let card = c.args.card.now in
    let out = track-out card.head card.bytes.now c.args.key c.loop-above.above c.loop-above.b c.loop-above.header _ _ (omega (arith, c.loop-above-test.false, c.loop-above.auto.above-end)) c.loop-above.invariant.3 in
    record { long = c.loop-above.auto.path; ends = out }

pub returns-then-above-places : goal.returns-then-above-places
returns-then-above-places c = record { long = c.loop-above.auto.path; ends = omega (arith, c.loop-above-test.true, c.if-above-places.true) }

pub returns-in_err-e : goal.returns-in_err-e
unfolding track_on
returns-in_err-e c =
    let q = (goal.at.returns-in_err-e c).After-search in
    let p = err_from_is_err_and c.from_residual.result c.from_residual.ensures.1 in
    rw (p.1, p.2) (record { long = as_lent q; ends = rw c.in_err-e.was at (turn_at q) })

pub loop-above-preserved : goal.loop-above-preserved
unfolding track_on
loop-above-preserved c =
    let q = (goal.at.loop-above-preserved c).After-search in
    let card = c.args.card.now in
    let down : c.search.result ≡ Ok (Down c.in-Down.e) = c.in_ok-e.was ∙ ap Ok c.in-Down.is in
    let inside = down-inside card.head card.bytes.now c.args.key 4294967295 c.loop-above.b c.loop-above.header _ _ c.search.ensures down in
    (omega (arith, c.loop-above.invariant.0, c.if-above-places.false), inside.0, inside.1, rw down at (turn_at q))

pub returns-in-End : goal.returns-in-End
unfolding track_on
returns-in-End c =
    let q = (goal.at.returns-in-End c).After-search in
    let end : c.search.result ≡ Ok (End c.in-End.copy) = c.in_ok-e.was ∙ ap Ok c.in-End.is in
    record { long = as_lent q; ends = (omega arith, rw end at (turn_at q)) }
