-- `walk::head::beginning` reads bytes 8..11 of the head.
use mathlib.Core.Path.{ap, ◌∙◌}
use mathlib.Core.List.{List}
use Prim.Native.Nat.{ℕ}
use Rattle.rules.specs.Sector.{word}
use Rattle.rules.specs.Layout.{beginning}
use Rattle.walk.proofs.head.beginning.Goals as goal

pub returns : goal.returns
unfolding beginning
returns c = c.read_word.ensures ∙ ap (λ (s : List ℕ). word s 8) c.bytes.ensures
