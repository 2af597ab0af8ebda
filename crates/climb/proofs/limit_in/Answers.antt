-- `climb::limit_in` takes the limit of a bucket that is read.
use mathlib.Core.Path.{◌≡◌, ap, ap₂, ◌∙◌}
use mathlib.Core.List.{List}
use Prim.Native.Nat.{ℕ}
use native.Mathlib.Omega.{arith}
use Rattle.rules.specs.Rewrite.{limit_of}
use Rattle.hand.specs.Hand.{entries_at}
use Rattle.climb.specs.Levels.{entries_on, limit_on}
use Rattle.climb.proofs.Reading.{reads}
use Rattle.climb.proofs.Counting.{limit-within}
use Rattle.climb.proofs.limit_in.Goals as goal

pub bucket-requires : goal.bucket-requires
bucket-requires c = let card = c.args.card.now in let rd = reads card.head card.bytes.now c.args.b card.shape c.requires.0 in (rd.one, rd.most)

pub limit-requires : goal.limit-requires
limit-requires c =
    let card = c.args.card.now in
    let rd = reads card.head card.bytes.now c.args.b card.shape c.requires.0 in
    (omega (arith, c.bucket.ensures.1, rd.room, c.requires.1), omega (arith, rd.held, c.requires.1))

pub returns : goal.returns
unfolding limit_on
returns c =
    let card = c.args.card.now in
    let rd = reads card.head card.bytes.now c.args.b card.shape c.requires.0 in
    let es = entries_on card.head card.bytes.now c.args.b in
    let en : entries_at c.bucket.result.now 0 c.args.used ≡ es =
    ap₂ (λ (l : List ℕ) (k : ℕ). entries_at l 0 k) c.bucket.ensures.0 c.requires.1 ∙ rd.entries in
    let is : c.limit.result ≡ limit_of card.head es = c.limit.ensures ∙ ap (limit_of card.head) en in
    let w = limit-within card.head es card.shape.lim in
    (is, omega (arith, is, w.0), omega (arith, is, w.1))
