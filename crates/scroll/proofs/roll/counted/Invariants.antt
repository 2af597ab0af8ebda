-- `roll::counted` counts the records of a roll. Those counted and the roll that is left give what the whole roll gives.
use mathlib.Core.Path.{◌≡◌}
use Prim.Native.Nat.{◌-◌}
use Rattle.rules.specs.Records.{rolled}
use Rattle.scroll.specs.Records.{tally_of}
use Rattle.scroll.proofs.Rolls.{tally_after}
use Rattle.scroll.proofs.roll.counted.Given as goal

abbrev pub invariant-loop-count : goal.invariant-loop-count
invariant-loop-count l = tally_after l.count (rolled l.card l.at (l.places - l.count) l.last) ≡ tally_of (rolled l.card l.at l.places l.bib)
