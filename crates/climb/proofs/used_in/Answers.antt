-- `climb::used_in` counts the entries of a bucket that is read.
use mathlib.Core.Path.{◌≡◌, ap, ◌∙◌}
use mathlib.Core.List.{List}
use Prim.Native.Nat.{ℕ}
use native.Mathlib.Omega.{arith}
use lib.ListN.{length}
use Rattle.level.specs.Level.{used_of}
use Rattle.climb.specs.Levels.{entries_on}
use Rattle.climb.proofs.Reading.{reads}
use Rattle.climb.proofs.used_in.Goals as goal

pub bucket-requires : goal.bucket-requires
bucket-requires c = let card = c.args.card.now in let rd = reads card.head card.bytes.now c.args.b card.shape c.requires in (rd.one, rd.most)

pub returns : goal.returns
returns c =
    let card = c.args.card.now in
    let rd = reads card.head card.bytes.now c.args.b card.shape c.requires in
    let e : c.used.result ≡ length (entries_on card.head card.bytes.now c.args.b) =
    c.used.ensures.1 ∙ ap (λ (l : List ℕ). used_of 0 l 0 card.head.m) c.bucket.ensures.0 ∙ rd.used in
    (e, omega (arith, e, rd.held), omega (arith, c.used.ensures.0))
