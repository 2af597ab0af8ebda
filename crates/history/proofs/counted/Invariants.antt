-- `history::counted` counts page after page. What is left from the next page on, with those counted before it, fits as the whole does.
use mathlib.Core.Path.{◌≡◌}
use mathlib.Core.List.{List}
use Rattle.std.specs.Prelude.{Some}
use Prim.Native.Nat.{◌+◌, ◌-◌, ◌≤◌}
use Rattle.rules.specs.declared.Entry.{Entry}
use Rattle.gather.specs.Pages.{said}
use Rattle.history.specs.Told.{fit_after, rest_from}
use Rattle.history.proofs.Tells.{waiting}
use Rattle.history.proofs.counted.Given as goal

abbrev pub invariant-loop-total : goal.invariant-loop-total
invariant-loop-total l =
    let from = said l.card.head l.card.bytes.now l.bib l.at in
    (l.total ≤ l.places + 34)
    × ((es : List Entry) × (rest_from from l.more ≡ Some es))
    × (fit_after l.places l.total (rest_from from l.more) ≡ fit_after l.places 0 (from 0))

abbrev pub decreases-loop-total : goal.decreases-loop-total
decreases-loop-total l = l.places + 34 - l.total + waiting l.more
