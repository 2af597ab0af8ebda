-- `batch::load` answers the requests one after the other. What is left of them, on the card as it is, gives what the whole gives.
use mathlib.Core.Path.{◌≡◌}
use Rattle.std.specs.Prelude.{Some}
use mathlib.Core.List.{◌++◌}
use Prim.Native.Nat.{◌-◌}
use lib.ListN.{length, take}
use Rattle.rules.specs.Layout.{head_of}
use Rattle.rules.specs.Batch.{requests_in, card_of, answers_to}
use Rattle.batch.specs.Carry.{Knows}
use Rattle.batch.proofs.load.Given as goal

abbrev pub invariant-loop-i : goal.invariant-loop-i
invariant-loop-i l = (head_of l.card ≡ Some l.head) × Knows l.head l.card l.known
    × (card_of l.card (requests_in l.requests l.i (length l.initial.answers - l.i)) ≡ card_of l.initial.card (requests_in l.requests 1 (length l.initial.answers - 1)))
    × (take l.i l.answers ++ answers_to l.card (requests_in l.requests l.i (length l.initial.answers - l.i)) ≡ take 1 l.initial.answers ++ answers_to l.initial.card (requests_in l.requests 1 (length l.initial.answers - 1)))
