-- `storeys::tower` builds the index levels. Those left, on the card as it is, give what all give on the card that came.
use borrow.Author.Rules.{rules}
use mathlib.Core.Path.{◌≡◌, sym, ◌∙◌}
use Prim.Native.Nat.{◌+◌, ◌≤◌}
use native.Mathlib.Omega.{arith}
use Rattle.rules.specs.Layout.{base}
use Rattle.bucket.specs.Shapes.{Shape}
use Rattle.season.specs.Storeys.{over, raised}
use Rattle.season.proofs.Counts.{over-less, over-some}
use Rattle.season.proofs.Rooms.{level-room}
use Rattle.season.proofs.Turns.{rest-fits, rest_more}
use Rattle.season.proofs.storeys.tower.Goals as goal
use Rattle.season.proofs.storeys.tower.Goals.{After-raise, At-loop-head}

-- the level's buckets are the card's
fits-at : (q : At-loop-head) → let l = q.loop-head in let a = q.args in l.b + l.c + over a.q l.c ≤ a.head.n + 1
fits-at q =
    let l = q.loop-head in
    let a = q.args in
    rest-fits a.head a.stamp a.q l.b l.c _ l.target q.requires.1 l.invariant.1 l.invariant.3

-- the level that was laid down
made_at : (q : After-raise)
    → let l = q.loop-head in let a = q.args in
    q.raise.new.target ≡ raised a.head a.stamp a.q l.b (base a.head (l.b + l.c)) 0 l.c l.target
made_at q = let e = q.first_sector-i.ensures in rw e at q.raise.ensures

pub overflow_add-fresh : goal.overflow_add-fresh
overflow_add-fresh c =
    let k = fits-at (goal.at.overflow_add-fresh c).At-loop-head in
    omega (arith, c.requires.0.lim.n4096)

pub first_sector-i-requires : goal.first_sector-i-requires
first_sector-i-requires c =
    let k = fits-at (goal.at.first_sector-i-requires c).At-loop-head in
    let s = over-some c.args.q c.loop-head.c (omega (arith, c.requires)) c.loop-head.invariant.1 in
    (c.requires.0.lim.m32, c.requires.0.lim.n4096, omega (arith, c.loop-head.invariant), omega arith)

pub raise-requires : goal.raise-requires
raise-requires c =
    let l = c.loop-head in
    let k = fits-at (goal.at.raise-requires c).At-loop-head in
    let a = c.args in
    let sh : Shape a.head l.target = record { lim = c.requires.0.lim; long = c.requires.0.long ∙ sym l.invariant.2 } in
    let e = c.first_sector-i.ensures in (
      sh,
      rw e (level-room a.head l.target a.q (l.b + l.c) l.c sh (omega (arith, c.requires)) c.requires.2 (omega (arith, l.invariant)) (omega arith)),
      l.invariant.0,
      omega arith,
    )

pub over-up-requires : goal.over-up-requires
over-up-requires c =
    let k = fits-at (goal.at.over-up-requires c).At-loop-head in
    (omega (arith, c.requires), omega (arith, c.requires, c.requires.0.lim.m32), omega (arith, c.requires.0.lim.n4096))

pub loop-head-smaller : goal.loop-head-smaller
loop-head-smaller c =
    let up = c.over-up.ensures in
    let l = c.loop-head in
    let k = over-less c.args.q l.c c.requires.1 (omega (arith, c.if-top.false)) in
    omega arith

pub loop-head-preserved : goal.loop-head-preserved
loop-head-preserved c =
    let up = c.over-up.ensures in
    let made = made_at (goal.at.loop-head-preserved c).After-raise in
    let l = c.loop-head in
    let a = c.args in (
      omega (arith, l.invariant),
      omega (arith, c.if-top.false),
      search rules,
      rw up (rest_more a.head a.stamp a.q l.b l.c _ l.target c.requires.1 l.invariant.1 l.invariant.3 _ made (omega (arith, c.if-top.false))),
    )
