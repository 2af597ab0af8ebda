-- `rise::rise`, which calls itself: the levels left fall, and what the rule makes of the levels from here is what it makes of the rest from the parent.
use mathlib.Core.Path.{◌≡◌, refl}
use mathlib.Core.List.{List, [], ◌∷◌}
use Prim.Native.Nat.{ℕ, ◌-◌, ◌+◌, ◌<◌}
use native.Mathlib.Omega.{arith}
use lib.ListN.{length, take, drop, get_or}
use Rattle.climb.specs.Levels.{rise_on}
use Rattle.rise.proofs.Turns.{Level, front, ends-in, fits, next-whole, next-ready}
use Rattle.rise.proofs.+rise.Goals as goal
use Rattle.rise.proofs.+rise.Goals.{After-sent_count}

-- the level as it was found
level : (t : ℕ) (q : After-sent_count t) →
    let a = q.args in
    let levels = a.levels.now in
    Level a.head a.stamp a.card.now (get_or levels 0 0) (take (length levels - 1) (drop 1 levels)) a.p.now a.fresh q.used_in-used.result q.sent_count.result
level t q =
    let ready = q.requires.ready in
    let u = q.used_in-used.ensures in
    let f = front q.args.levels.now q.in-len1-up.len_at_least in
    record { ready = rw f at ready.0; used = u.0; most = u.2; sent = q.sent_count.ensures.0; small = ready.1; cap = rw f at q.requires.card_bound }

none_left : (l : List ℕ) → length l < 1 → l ≡ []
none_left [] h = refl
none_left (b ∷ bs) h = absurd (omega arith)

pub new_root-requires-clause-card_bound : goal.new_root-requires-clause-card_bound
unfolding rise_on
new_root-requires-clause-card_bound t c = rw (none_left c.args.levels.now c.in_default.len_below) at c.requires.card_bound

pub returns-in_default : goal.returns-in_default
unfolding rise_on
returns-in_default t c = rw (none_left c.args.levels.now c.in_default.len_below) c.new_root.ensures

pub returns-then-used-sent_count : goal.returns-then-used-sent_count
returns-then-used-sent_count t c =
    rw (front c.args.levels.now c.in-len1-up.len_at_least, ends-in (level t (goal.at.returns-then-used-sent_count t c).After-sent_count) c.if-used-sent_count.true) c.write_in.ensures

pub rewrite-r-requires-clause-p_bound : goal.rewrite-r-requires-clause-p_bound
rewrite-r-requires-clause-p_bound t c =
    fits (level t (goal.at.rewrite-r-requires-clause-p_bound t c).After-sent_count) (omega (arith, c.if-used-sent_count.false))

pub rise-requires : goal.rise-requires
rise-requires t c =
    let v = level t (goal.at.rise-requires t c).After-sent_count in
    let w = c.rewrite-r.ensures in
    let gt : c.args.head.m < c.used_in-used.result + c.sent_count.result = omega (arith, c.if-used-sent_count.false) in
    (omega (arith, c.decreases, c.in-len1-up.len_at_least), ((next-ready v gt w.hands_on w.card_after, w.hands_on.small), rw (← next-whole v gt w.hands_on w.card_after) v.cap))

pub returns : goal.returns
returns t c =
    let v = level t (goal.at.returns t c).After-sent_count in
    let w = c.rewrite-r.ensures in
    rw (front c.args.levels.now c.in-len1-up.len_at_least, next-whole v (omega (arith, c.if-used-sent_count.false)) w.hands_on w.card_after) c.rise.ensures
