-- `climb::count` foretells what the write needs. What the levels left give from here is what all give from the start.
use mathlib.Core.Path.{◌≡◌}
use Prim.Native.Nat.{◌+◌, ◌*◌, ◌≤◌}
use lib.ListN.{drop}
use Rattle.level.specs.Level.{sent_list, AllSmall}
use Rattle.climb.specs.Levels.{tally, count_on, AllRead}
use Rattle.climb.proofs.count.Given as goal

abbrev pub invariant-loop-b : goal.invariant-loop-b
invariant-loop-b l =
    let card = l.card in
    let left = drop l.b-index l.levels in
    (l.next ≤ l.fresh + 2 * l.b-index) × AllSmall (sent_list l.sent) × AllRead card.head card.bytes.now left
    × (count_on card.head l.stamp card.bytes.now left (tally (sent_list l.sent) l.next) ≡ count_on card.head l.stamp card.bytes.now l.levels (tally (sent_list l.fn.p) l.fresh))
