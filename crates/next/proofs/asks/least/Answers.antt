-- `next::asks::least`: what is left from sector i on, with the entry whose rank is kept, gives what the whole gives.
use mathlib.Core.Path.{◌≡◌, refl, ap, ◌∙◌}
use Prim.Native.Nat.{◌+◌, ◌<◌, max}
use native.Mathlib.Nat.{sub-zero}
use native.Mathlib.Omega.{arith}
use Rattle.rules.specs.Sector.{sector_at, fields}
use Rattle.scan.specs.Next.{above_at, weigh, runs}
use Rattle.scan.proofs.Loops.{sectors-turn, sectors-end}
use Rattle.scan.proofs.Judged.{fields-turn}
use Rattle.bucket.specs.Places.{found_at}
use Rattle.next.specs.Ranks.{rank_above}
use Rattle.next.proofs.Ranks.{unranked, above-turn, place_is}
use Rattle.next.proofs.asks.least.Goals as goal
use Rattle.next.proofs.asks.least.Goals.{After-place_of}

pub loop-i-init : goal.loop-i-init
unfolding found_at
loop-i-init c = ((c.requires.2.0, rw sub-zero c.requires.2.1), (0, omega arith, unranked, rw sub-zero))

pub loop-i-preserved : goal.loop-i-preserved
loop-i-preserved c =
    let a = c.args in
    let l = c.loop-i in
    let kept = l.invariant.1 in
    let fields_are = c.fields_at-e.ensures in
    let rank = rw fields_are at c.rank_above.ensures in
    let less : l.i < a.m = c.loop-i-test.true in
    let run = sectors-turn (runs l.invariant.0.0) a.n a.m l.i a.part.now _ _ less refl l.invariant.0.1 in
    let whole = sectors-turn (λ ss. weigh (above_at a.x a.t) ss (found_at a.part.now kept.0)) a.n a.m l.i a.part.now _ _ less refl kept.3 in
    let on = fields-turn l.invariant.0.0 a.n a.x a.t _ _ _ _ _ refl run whole in
    let more : c.max-best.result ≡ max l.best (rank_above a.x a.t (fields (sector_at a.part.now l.i)) (l.i + 1)) = omega (arith, c.max-best.ensures, rank.0) in
    let best = above-turn a.part.now l.i a.x a.t (omega (arith, less, c.requires.1)) rank.1 kept.0 l.best _ kept.1 kept.2 more in
    ((l.invariant.0.0, on.0), (best.0, best.1, best.2, rw (← best.3) on.1))

-- the place kept
place : (q : After-place_of) → q.place_of.result ≡ q.loop-i.invariant.1.0
place q =
    let kept = q.loop-i.invariant.1 in
    q.place_of.ensures ∙ place_is _ kept.0 q.loop-i.best (omega (arith, q.loop-i.auto.i-end, kept.1, q.requires.1)) kept.2

pub entry_at-requires : goal.entry_at-requires
entry_at-requires c = omega (arith, place (goal.at.entry_at-requires c).After-place_of, c.loop-i.auto.i-end, c.loop-i.invariant.1.1, c.requires.0)

pub returns : goal.returns
unfolding weigh
returns c =
    let a = c.args in
    c.entry_at.ensures ∙ ap (found_at a.part.now) (place (goal.at.returns c).After-place_of)
    ∙ (rw (sectors-end a.n a.m c.loop-i.i a.part.now (omega (arith, c.loop-i-test.false))) at c.loop-i.invariant.1.3)
