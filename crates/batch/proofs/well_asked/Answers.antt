-- `batch::well_asked` is the test of answer 11.
use mathlib.Core.Path.{sym, ap, ◌∙◌}
use mathlib.Core.List.{List}
use Prim.Native.Nat.{ℕ}
use lib.ListN.{take, drop}
use Rattle.rules.specs.Plain.{zeros}
use Rattle.rules.specs.Batch.{well_asked}
use Rattle.batch.proofs.well_asked.Goals as goal

pub returns-then-all_zero : goal.returns-then-all_zero
unfolding well_asked
returns-then-all_zero c =
    let bare = c.if-all_zero.ensures ∙ ap (λ (s : List ℕ). zeros (take 2 (drop 2 s))) c.bytes.ensures in
    rw (sym bare, sym c.fields_at.ensures) c.asks.ensures

pub returns-else-all_zero : goal.returns-else-all_zero
unfolding well_asked
returns-else-all_zero c =
    let beside = c.if-all_zero.ensures ∙ ap (λ (s : List ℕ). zeros (take 2 (drop 2 s))) c.bytes.ensures in
    rw (sym beside) c.if-all_zero.false
