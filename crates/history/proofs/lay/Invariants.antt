-- `history::lay` lays page after page down. What is left from the page in hand on, in the buffer as it is, gives what the whole gives in the buffer that came.
use mathlib.Core.Path.{◌≡◌}
use Rattle.std.specs.Prelude.{Some}
use Prim.Native.Nat.{ℕ, ◌-◌}
use lib.ListN.{length}
use Rattle.gather.specs.Pages.{said, firsts}
use Rattle.history.specs.Told.{row_of, HasRoom}
use Rattle.history.proofs.lay.Given as goal

abbrev pub invariant-loop-from : goal.invariant-loop-from
invariant-loop-from l =
    let from = said l.card.head l.card.bytes.now l.bib l.at in
    (f : ℕ) × (Some l.page ≡ firsts (from f)) × HasRoom (length l.out) l.k (from f) × (row_of l.out l.k (from f) ≡ row_of l.initial.out 0 (from 0))

abbrev pub decreases-loop-from : goal.decreases-loop-from
decreases-loop-from l = length l.out - l.k
