-- `serve::bench::Bench::serve` keeps the card and the line that is being read through every read.
use Rattle.serve.specs.Feeds.{card_of}
use Rattle.serve.proofs.Known.{Along}
use Rattle.serve.proofs.bench.Bench.serve.Given as goal

abbrev pub invariant-loop : goal.invariant-loop
invariant-loop g l =
    Along (g.R.Read.remaining l.fn.from) (g.R.Read.remaining l.from) (g.W.Write.contents l.fn.to) (g.W.Write.contents l.to) (card_of l.self) l.self.line.items
