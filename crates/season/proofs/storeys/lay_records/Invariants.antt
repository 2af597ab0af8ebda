-- `storeys::lay_records` lays the records down. Those left, on the card as it is, give what all give on the card that came.
use mathlib.Core.Path.{◌≡◌}
use Prim.Native.Nat.{◌+◌, ◌≤◌}
use lib.ListN.{length}
use Rattle.laws.proofs.Lists.{All}
use Rattle.writer.specs.Words.{Narrow}
use Rattle.rules.specs.Records.{rolled}
use Rattle.scroll.specs.Left.{left}
use Rattle.season.specs.Storeys.{laid}
use Rattle.season.proofs.storeys.lay_records.Given as goal

abbrev pub invariant-loop-j : goal.invariant-loop-j
invariant-loop-j l =
    let more = left l.j-iterator.iter in
    let j = l.j-iterator.count in
    (goal.iterator-loop-j).can_next l.j-iterator
    × (goal.iterator-loop-j).is_finite l.j-iterator
    × (j + length more ≤ l.fn.count)
    × All Narrow more
    × (length l.target ≡ length l.initial.target)
    × (laid l.fn.storey.m l.fn.storey.q l.fn.storey.first (j + 1) l.target more ≡ laid l.fn.storey.m l.fn.storey.q l.fn.storey.first 1 l.initial.target (rolled l.fn.card l.fn.at l.fn.count 0).records)
