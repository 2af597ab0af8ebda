-- `bucket::Card::log` meets its contract: the n x 16 bytes of the root log.
use native.Mathlib.Omega.{arith}
use native.Mathlib.Nat.{add-sub_cancel_left}
use lib.ListN.{length-take, length-drop}
use Rattle.scan.specs.Look.{log_of}
use Rattle.bucket.proofs.Room.{log-room}
use Rattle.bucket.proofs.Card.log.Goals as goal

pub slice_bounds-result-end : goal.slice_bounds-result-end
slice_bounds-result-end c = let h = log-room _ _ c.args.self.now.shape in omega arith

pub returns : goal.returns
unfolding log_of
returns c =
    let h = log-room _ _ c.args.self.now.shape in
    (rw add-sub_cancel_left, simp (add-sub_cancel_left, length-take, length-drop) (omega arith))
