-- `climb::count` foretells what the write needs. What the levels left give from here is what all give from the start.
use mathlib.Core.Path.{◌≡◌, refl, ap, sym, ◌∙◌}
use mathlib.Core.List.{List, []}
use Prim.Native.Nat.{ℕ}
use native.Mathlib.Omega.{arith}
use lib.ListN.{drop, drop_of_length-le}
use Rattle.level.specs.Level.{sent_list}
use Rattle.climb.specs.Levels.{tally, count_on, needs_of, fresh_over, is_open}
use Rattle.climb.proofs.Counting.{read_at, ends-here, goes_on, count_none}
use Rattle.climb.proofs.count.Goals as goal

pub loop-b-init : goal.loop-b-init
loop-b-init c = (omega arith, c.requires.read.1, c.requires.read.0, refl)

pub used_in-used-requires : goal.used_in-used-requires
used_in-used-requires c =
    let card = c.args.card.now in
    (read_at card.head card.bytes.now c.args.levels.now c.loop-b.b-index c.loop-b-test.true c.loop-b.invariant.2).0

pub returns-then-used-sent_count : goal.returns-then-used-sent_count
unfolding needs_of fresh_over is_open
returns-then-used-sent_count c =
    let card = c.args.card.now in
    let l = c.loop-b in
    ap needs_of
    (ends-here card.head c.args.stamp card.bytes.now c.args.levels.now l.b-index l.sent l.next _ _ _ card.shape l.invariant.2 l.invariant.3 c.loop-b-test.true
    c.used_in-used.ensures.0 c.sent_count.ensures.0 c.if-used-sent_count.true)

pub renewal-r-requires-clause-read : goal.renewal-r-requires-clause-read
renewal-r-requires-clause-read c =
    let card = c.args.card.now in
    ((read_at card.head card.bytes.now c.args.levels.now c.loop-b.b-index c.loop-b-test.true c.loop-b.invariant.2).0, c.used_in-used.ensures.0)

pub renewal-r-requires-clause-small : goal.renewal-r-requires-clause-small
renewal-r-requires-clause-small c = (c.loop-b.invariant.1, omega (arith, c.loop-b.invariant.0, c.loop-b-test.true, c.requires.bounds))

pub loop-b-preserved : goal.loop-b-preserved
loop-b-preserved c =
    let card = c.args.card.now in
    let l = c.loop-b in
    let on = c.renewal-r.ensures in
    let used = c.used_in-used.ensures in (
      omega (arith, l.invariant.0, on.most),
      on.small,
      (read_at card.head card.bytes.now c.args.levels.now l.b-index c.loop-b-test.true l.invariant.2).1,
      goes_on card.head c.args.stamp card.bytes.now c.args.levels.now l.b-index l.sent l.next _ _ _ card.shape l.invariant.2 l.invariant.3 c.loop-b-test.true
          used.0 c.sent_count.ensures.0 (omega (arith, c.if-used-sent_count.false)) used.2 c.renewal-r.result on,
    )

pub over-requires : goal.over-requires
over-requires c = omega (arith, c.loop-b.invariant.0, c.loop-b.auto.b-index-end, c.requires.bounds)

pub returns : goal.returns
returns c =
    let card = c.args.card.now in
    let l = c.loop-b in
    let none : drop l.b-index c.args.levels.now ≡ [] = drop_of_length-le c.args.levels.now {i = l.b-index} (omega (arith, c.loop-b-test.false)) in
    c.over.ensures ∙ ap needs_of (sym (ap (λ (bs : List ℕ). count_on card.head c.args.stamp card.bytes.now bs (tally (sent_list l.sent) l.next)) none ∙ count_none card.head c.args.stamp card.bytes.now _) ∙ l.invariant.3)
