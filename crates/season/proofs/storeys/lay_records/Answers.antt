-- `storeys::lay_records` lays the records down. Those left, on the card as it is, give what all give on the card that came.
use mathlib.Core.Logic.{inl}
use mathlib.Core.Path.{refl, ap, ◌∙◌}
use native.Mathlib.Omega.{arith}
use lib.ListN.{length}
use Rattle.laws.proofs.Bytes.{get-bytes}
use Rattle.scroll.specs.Left.{left}
use Rattle.scroll.proofs.Rolls.{rolled-narrow, rolled-short}
use Rattle.season.proofs.storeys.lay_records.Goals as goal

pub loop-j-init : goal.loop-j-init
loop-j-init c =
    let a = c.args in
    let by = get-bytes a.card.now (λ i. omega (arith, c.type_inv.card i)) in
    let same = c.into_iter-j-iterator.ensures.into_iter_gives in
    let made = c.enumerate-j-items.ensures in
    let none = ap (λ s. s.count) same ∙ made.count in
    let all = ap (λ s. left s.iter) same ∙ ap left made.source ∙ c.above.ensures in
    let many = ap length all in
    let short = rolled-short a.card.now a.at a.count 0 in (
      (tt, tt, inl (omega (arith, c.requires.1))),
      tt,
      omega arith,
      rw all (rolled-narrow a.card.now by a.at a.count 0),
      refl,
      rw (none, all) refl,
    )
