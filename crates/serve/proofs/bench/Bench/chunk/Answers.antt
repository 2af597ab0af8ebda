-- `serve::bench::Bench::chunk` does with what was read what the rules do with each byte in turn.
use mathlib.Core.Path.{sym, ◌∙◌}
use lib.ListN.{drop_of_length-le}
use Rattle.serve.specs.Feeds.{card_of, fed, said}
use Rattle.serve.proofs.Turns.{fed-more}
use Rattle.serve.proofs.Known.{still-on, still-done, said-more}
use Rattle.serve.proofs.bench.Bench.chunk.Goals as goal

pub loop-b-preserved : goal.loop-b-preserved
loop-b-preserved g c =
    let l = c.loop-b in
    let k = c.in_ok-byte.ensures in
    let card = card_of l.self in
    let kept = l.self.line.items in
    let got = c.args.got.now in
    let turn = fed-more card kept got l.b-index _ c.loop-b-test.true k.fed_after in
    let more = said-more card kept got l.b-index _ c.loop-b-test.true k.fed_after in
    record { so_far = sym turn ∙ l.invariant.so_far; to_come = still-on _ _ _ _ _ _ _ l.invariant.to_come k.out_after more }

pub returns-clause-fed_after : goal.returns-clause-fed_after
unfolding fed
returns-clause-fed_after g c =
    let l = c.loop-b in
    rw (drop_of_length-le c.args.got.now {i = l.b-index} c.loop-b-test.false) at l.invariant.so_far

pub returns-clause-out_after : goal.returns-clause-out_after
unfolding said
returns-clause-out_after g c =
    let l = c.loop-b in
    still-done _ _ _ (rw (drop_of_length-le c.args.got.now {i = l.b-index} c.loop-b-test.false) at l.invariant.to_come)
