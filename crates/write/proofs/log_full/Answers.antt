-- `write::log_full` asks the log for a blank.
use mathlib.Core.Path.{ap, ◌∙◌}
use mathlib.Core.List.{List}
use Prim.Native.Nat.{ℕ}
use Rattle.level.specs.Level.{used_of}
use Rattle.write.proofs.Laid.{log-none}
use Rattle.write.proofs.log_full.Goals as goal

pub returns : goal.returns
returns c =
    let card = c.args.card.now in
    log-none card.head card.bytes.now c.requires.0 _ card.shape c.requires.1 (c.used.ensures.1 ∙ ap (λ (l : List ℕ). used_of 0 l 0 card.head.n) c.log.ensures.0)
