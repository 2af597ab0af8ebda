-- The rest lies on the card, with the bucket in it.
use Prim.Native.Nat.{◌*◌, ◌-◌}
use native.Mathlib.Omega.{arith}
use lib.ListN.{length, drop, length-drop, length-take}
use lib.Seq.{take_all}
use Rattle.rules.specs.Layout.{base}
use Rattle.bucket.proofs.Room.{room}
use Rattle.bucket.proofs.Card.from_bucket.Goals as goal

pub slice_bounds-result-count : goal.slice_bounds-result-count
slice_bounds-result-count c = let h = room _ _ _ c.args.self.now.shape c.requires.0 c.requires.1 in omega arith

pub slice_bounds-result-start : goal.slice_bounds-result-start
slice_bounds-result-start c = let h = room _ _ _ c.args.self.now.shape c.requires.0 c.requires.1 in omega arith

pub returns : goal.returns
unfolding base
returns c =
    let card = c.args.self.now in
    let h = room _ _ _ card.shape c.requires.0 c.requires.1 in
    let start = 16 * base card.head c.args.b in
    (take_all (length card.bytes.now - start) (drop start card.bytes.now) (simp length-drop (omega arith)), simp (length-take, length-drop) (omega arith))
