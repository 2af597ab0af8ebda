-- `bucket::Card::find_root` meets its contract: what the scan of the log finds.
use Rattle.laws.proofs.Heads.{log-fits}
use Rattle.bucket.proofs.Places.{log-found}
use Rattle.bucket.proofs.Card.find_root.Goals as goal

pub returns : goal.returns
returns c =
    let card = c.args.self.now in
    log-found card.head card.bytes.now _ c.args.stamp _ (log-fits card.head card.bytes.now card.shape.long) c.log.ensures.0 c.scan_log.ensures
