-- `serve::bench::Bench::chunk` does with what was read what the rules do with each byte in turn.
use mathlib.Core.Path.{◌≡◌}
use lib.ListN.{drop}
use Rattle.serve.specs.Feeds.{card_of, fed, said}
use Rattle.serve.proofs.Known.{Still}
use Rattle.serve.proofs.bench.Bench.chunk.Given as goal

abbrev pub invariant-loop-b : goal.invariant-loop-b
invariant-loop-b g l = record {
  so_far : fed (card_of l.self) l.self.line.items (drop l.b-index l.got) ≡ fed (card_of l.fn.self) l.fn.self.line.items l.got;
  to_come :
      Still (g.W.Write.contents l.fn.to) (g.W.Write.contents l.to) (said (card_of l.fn.self) l.fn.self.line.items l.got)
      (said (card_of l.self) l.self.line.items (drop l.b-index l.got));
}
