-- `serve::bench::Bench::finish` answers the last line unless it is empty.
use mathlib.Core.Path.{sym, ◌∙◌}
use lib.ListN.{length}
use borrow.Author.Tests.{eqb-true, eqb-false}
use Rattle.std.proofs.KnownBytes.{Appends-nil}
use Rattle.serve.proofs.Turns.{last-said, nothing-said}
use Rattle.serve.proofs.bench.Bench.finish.Goals as goal

pub returns-then-empty : goal.returns-then-empty
returns-then-empty g c = rw (nothing-said _ _ (eqb-true (length c.args.self.now.line.items) 0 (sym c.is_empty-empty.ensures ∙ c.if-empty.true))) (Appends-nil _)

pub returns-else-empty : goal.returns-else-empty
returns-else-empty g c = rw (last-said _ _ (eqb-false (length c.args.self.now.line.items) 0 (sym c.is_empty-empty.ensures ∙ c.if-empty.false))) c.respond.ensures.out_after
