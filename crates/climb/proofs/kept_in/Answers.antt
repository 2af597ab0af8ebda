-- `climb::kept_in` keeps what the rule keeps of a bucket that is read.
use mathlib.Core.Path.{◌≡◌, ap, ap₂, sym, ◌∙◌, subst}
use mathlib.Core.List.{List, ◌++◌}
use Prim.Native.Nat.{ℕ}
use native.Mathlib.Omega.{arith}
use Rattle.rules.specs.declared.Entry.{Entry}
use Rattle.rules.specs.Rewrite.{kept, key_of}
use Rattle.hand.specs.Hand.{entries_at}
use Rattle.level.specs.Level.{sent_list, AllSmall}
use Rattle.climb.specs.Levels.{entries_on, kept_on}
use Rattle.climb.proofs.Reading.{reads}
use Rattle.climb.proofs.Counting.{kept_small}
use Rattle.climb.proofs.kept_in.Goals as goal

pub bucket-requires : goal.bucket-requires
bucket-requires c = let card = c.args.card.now in let rd = reads card.head card.bytes.now c.args.b card.shape c.requires.read.0 in (rd.one, rd.most)

pub regrouped-requires : goal.regrouped-requires
regrouped-requires c =
    let card = c.args.card.now in
    let rd = reads card.head card.bytes.now c.args.b card.shape c.requires.read.0 in
    (omega (arith, c.bucket.ensures.1, rd.room, c.requires.read.1), omega (arith, rd.room, c.requires.read.1, card.shape.lim.m32))

pub returns : goal.returns
unfolding kept_on
returns c =
    let card = c.args.card.now in
    let rd = reads card.head card.bytes.now c.args.b card.shape c.requires.read.0 in
    let es = entries_on card.head card.bytes.now c.args.b in
    let en : entries_at c.bucket.result.now 0 c.args.used ≡ es =
    ap₂ (λ (l : List ℕ) (k : ℕ). entries_at l 0 k) c.bucket.ensures.0 c.requires.read.1 ∙ rd.entries in
    let is : c.regrouped.result ≡ kept (key_of es) c.args.stamp (es ++ sent_list c.args.p) =
    c.regrouped.ensures.1 ∙ ap (λ (l : List Entry). kept (key_of l) c.args.stamp (l ++ sent_list c.args.p)) en in
    (is, c.regrouped.ensures.0, subst AllSmall (sym is) (kept_small (key_of es) c.args.stamp es (sent_list c.args.p) rd.small c.requires.small))
