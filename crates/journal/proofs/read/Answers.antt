-- `journal::read` reads a slice as the rule does.
use mathlib.Core.Path.{◌∙◌}
use native.Mathlib.Omega.{arith}
use Rattle.journal.specs.Passes.{reading_of}
use Rattle.journal.proofs.Readings.{reading-is, journal-odd}
use Rattle.journal.proofs.read.Goals as goal

pub returns-then-len-ne0 : goal.returns-then-len-ne0
unfolding reading_of
returns-then-len-ne0 c = rw (journal-odd c.args.slice.now c.if-len-ne0.true)

pub returns : goal.returns
returns c =
    let a = c.args in
    c.pass_over.ensures ∙ reading-is a.x a.t a.slice.now _ (omega (arith, c.if-len-ne0.false))
