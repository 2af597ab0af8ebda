-- `roll::lay` lays the records of a roll down in a row. Those left, laid down in the buffer as it is, give what all give in the buffer that came.
use mathlib.Core.Path.{◌≡◌}
use Prim.Native.Nat.{◌+◌, ◌≤◌}
use lib.ListN.{length}
use Rattle.laws.proofs.Lists.{All}
use Rattle.writer.specs.Words.{Narrow}
use Rattle.writer.specs.Rows.{puts}
use Rattle.rules.specs.Records.{rolled}
use Rattle.scroll.specs.Left.{left}
use Rattle.scroll.proofs.roll.lay.Given as goal

abbrev pub invariant-loop-i : goal.invariant-loop-i
invariant-loop-i l =
    let more = left l.i-iterator.iter in
    let i = l.i-iterator.count in
    (goal.iterator-loop-i).can_next l.i-iterator
    × (goal.iterator-loop-i).is_finite l.i-iterator
    × (i + length more ≤ l.fn.places)
    × All Narrow more
    × (puts l.out i more ≡ puts l.fn.out 0 (rolled l.fn.card l.fn.at l.fn.places l.fn.bib).records)
