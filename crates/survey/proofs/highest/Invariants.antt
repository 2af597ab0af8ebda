-- `survey::highest` goes from behind: what the buckets passed by leave is what all have.
use mathlib.Core.Path.{◌≡◌}
use Rattle.rules.specs.Write.{top_used}
use Rattle.survey.proofs.highest.Given as goal

abbrev pub invariant-loop-below : goal.invariant-loop-below
invariant-loop-below l = top_used l.card.head l.card.bytes.now l.below ≡ top_used l.card.head l.card.bytes.now l.last
