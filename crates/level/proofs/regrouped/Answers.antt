-- `level::regrouped` keeps what the rule keeps, by the four steps of the hand.
use Rattle.std.proofs.Common.{arith, ◌++◌}
use Rattle.level.specs.Level.{sent_list}
use Rattle.rules.specs.Rewrite.{key_of}
use Rattle.hand.specs.Hand.{entries_at}
use Rattle.hand.proofs.Kept.{thinned-kept}
use Rattle.level.proofs.regrouped.Goals as goal

pub returns : goal.returns
returns c =
    let a = c.args in (
      omega (arith, c.thin.ensures.no_more, c.put_in_order.ensures.as_many, c.add.ensures.most, c.gathered-hand.ensures.as_many),
      rw (c.thin.ensures.kept, c.put_in_order.ensures.order, c.add.ensures.value, c.key_of-header.ensures, c.as_slice.ensures.value, c.gathered-hand.ensures.value)
          (thinned-kept (key_of (entries_at a.part.now 0 a.used)) a.stamp (entries_at a.part.now 0 a.used ++ sent_list a.p)),
    )
