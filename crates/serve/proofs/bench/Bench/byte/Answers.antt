-- `serve::bench::Bench::byte` does with a byte of the input what the rules do with it.
use mathlib.Core.Path.{ap, ap₂}
use borrow.Author.Tests.{eq-eqb, ne_eqb}
use Rattle.std.proofs.KnownBytes.{Appends-nil}
use Rattle.serve.specs.Feeds.{fed_to, byte_on, heard, card_of}
use Rattle.serve.proofs.Turns.{kept_byte}
use Rattle.serve.proofs.bench.Bench.byte.Goals as goal

pub returns-then-ends-clause-fed_after : goal.returns-then-ends-clause-fed_after
unfolding byte_on
returns-then-ends-clause-fed_after g c =
    let k = c.respond.ensures in
    rw (eq-eqb c.args.b 10 c.if-ends.true) (ap₂ fed_to k.card_after k.kept)

pub returns-then-ends-clause-out_after : goal.returns-then-ends-clause-out_after
unfolding heard
returns-then-ends-clause-out_after g c = rw (eq-eqb c.args.b 10 c.if-ends.true) c.respond.ensures.out_after

pub returns-clause-fed_after : goal.returns-clause-fed_after
unfolding byte_on
returns-clause-fed_after g c =
    let p = c.try_push.ensures in
    rw (ne_eqb c.args.b 10 c.if-ends.false) (ap (fed_to (card_of c.args.self.now)) (kept_byte _ _ _ _ p.variant p.ok p.err p.full))

pub returns-clause-out_after : goal.returns-clause-out_after
unfolding heard
returns-clause-out_after g c = rw (ne_eqb c.args.b 10 c.if-ends.false) (Appends-nil _)
