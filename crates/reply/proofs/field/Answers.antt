-- `reply::field` puts a name and its number behind what the line has.
use mathlib.Core.Path.{ap₂, ◌∙◌}
use mathlib.Core.List.{List, ◌++◌, append_assoc}
use Prim.Native.Nat.{ℕ}
use native.Mathlib.Omega.{arith}
use Rattle.reply.proofs.Decimals.{decimal_shown}
use Rattle.reply.proofs.field.Goals as goal

pub returns-clause-bytes : goal.returns-clause-bytes
returns-clause-bytes c =
    let shown = c.format-number.ensures.text ∙ decimal_shown c.args.x (omega arith) in
    c.push_str-2.ensures.bytes ∙ ap₂ (λ (a b : List ℕ). a ++ b) c.push_str.ensures.bytes shown ∙ append_assoc c.args.line.now.bytes c.args.name.now _
