-- `roll::lay` lays the records of a roll down in a row. Those left, laid down in the buffer as it is, give what all give in the buffer that came.
use mathlib.Core.Logic.{inl}
use mathlib.Core.Path.{refl, ap, ◌∙◌}
use native.Mathlib.Omega.{arith}
use lib.ListN.{length}
use Rattle.laws.proofs.Bytes.{get-bytes}
use Rattle.scroll.specs.Left.{left}
use Rattle.scroll.proofs.Rolls.{rolled-narrow, rolled-short}
use Rattle.scroll.proofs.roll.lay.Goals as goal

pub loop-i-init : goal.loop-i-init
loop-i-init c =
    let a = c.args in
    let by = get-bytes a.card.now (λ i. omega (arith, c.type_inv.card i)) in
    let same = c.into_iter-i-iterator.ensures.into_iter_gives in
    let made = c.enumerate-i-items.ensures in
    let none = ap (λ s. s.count) same ∙ made.count in
    let all = ap (λ s. left s.iter) same ∙ ap left made.source ∙ c.above.ensures in
    let many = ap length all in
    let short = rolled-short a.card.now a.at a.places a.bib in (
      (tt, tt, inl (omega (arith, c.ranges.places.fits))),
      tt,
      omega arith,
      rw all (rolled-narrow a.card.now by a.at a.places a.bib),
      rw (none, all) refl,
    )
