-- `climb::write_in` fills the first blanks of a bucket.
use mathlib.Core.Path.{sym, ◌∙◌}
use native.Mathlib.Omega.{arith}
use Rattle.rules.specs.Layout.{base}
use Rattle.laws.proofs.Heads.{bucket-low, bucket-fits}
use Rattle.climb.specs.Levels.{entries_on}
use Rattle.climb.proofs.Reading.{reads}
use Rattle.climb.proofs.Laying.{into-puts}
use Rattle.climb.proofs.write_in.Goals as goal

pub first_sector-at-requires : goal.first_sector-at-requires
first_sector-at-requires c = let rd = reads c.args.head c.args.card.now c.args.b c.requires.shape.0 c.requires.shape.1 in (c.requires.shape.0.lim.m32, c.requires.shape.0.lim.n4096, rd.one, rd.most)

pub overflow_add-at : goal.overflow_add-at
unfolding base
overflow_add-at c =
    let rd = reads c.args.head c.args.card.now c.args.b c.requires.shape.0 c.requires.shape.1 in
    let l = c.requires.shape.0.lim in
    let k = bucket-low c.args.head.m c.args.head.n c.args.b l.m32 l.n4096 rd.most in
    omega (arith, c.first_sector-at.ensures, c.requires.p_bound)

pub write_sent-requires : goal.write_sent-requires
write_sent-requires c =
    let rd = reads c.args.head c.args.card.now c.args.b c.requires.shape.0 c.requires.shape.1 in
    let fits = bucket-fits c.args.head c.args.card.now c.args.b c.requires.shape.0.long rd.one rd.most in
    (omega (arith, c.first_sector-at.ensures, c.requires.p_bound), c.requires.shape.3)

pub returns : goal.returns
returns c =
    let a = c.args in
    let rd = reads a.head a.card.now a.b c.requires.shape.0 c.requires.shape.1 in
    c.write_sent.ensures
    ∙ sym (into-puts _ _ _ (entries_on a.head a.card.now a.b) _ _ rd.raws (omega (arith, c.requires.shape.2, c.requires.p_bound)) (omega (arith, c.first_sector-at.ensures, c.requires.shape.2)))
