-- `trail::root_of` is the bucket of the log's last root entry.
use Rattle.trail.proofs.Tracks.{no-root, hit-root}
use Rattle.trail.proofs.root_of.Goals as goal

pub returns-in-Ok : goal.returns-in-Ok
returns-in-Ok c = hit-root c.args.card.now.head c.args.card.now.bytes.now _ _ c.root_at.ensures c.in-Ok.is

pub returns-in-Err : goal.returns-in-Err
returns-in-Err c = no-root c.args.card.now.head c.args.card.now.bytes.now _ _ c.root_at.ensures c.in-Err.is
