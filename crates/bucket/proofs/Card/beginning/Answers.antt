-- `bucket::Card::beginning` reads bytes 8..11 of the head.
use mathlib.Core.Path.{ap, ◌∙◌}
use mathlib.Core.List.{List}
use Prim.Native.Nat.{ℕ}
use native.Mathlib.Omega.{arith}
use Rattle.rules.specs.Sector.{word}
use Rattle.rules.specs.Layout.{beginning}
use Rattle.bucket.proofs.Room.{log-room}
use Rattle.bucket.proofs.Card.beginning.Goals as goal

pub bytes-requires : goal.bytes-requires
bytes-requires c = let h = log-room _ _ c.args.self.now.shape in omega arith

pub returns : goal.returns
unfolding beginning
returns c = c.read_word.ensures ∙ ap (λ (s : List ℕ). word s 8) c.bytes.ensures
