-- `season::season_to` follows the rule's plan for a geometry.
use mathlib.Core.Path.{◌≡◌, refl, ap, sym, ◌∙◌}
use mathlib.Core.Bool.{true}
use Prim.Native.Nat.{◌+◌, ◌≤◌}
use native.Mathlib.Omega.{arith}
use lib.Dec.{eqb}
use lib.ListN.{length}
use Rattle.rules.specs.Plain.{◌&◌}
use Rattle.rules.specs.Layout.{limits, size_of}
use Rattle.rules.specs.Write.{accept}
use Rattle.laws.proofs.Heads.{Lim, limits-hold}
use Rattle.format.proofs.Blank.{suited}
use Rattle.rules.specs.Season.{quota, standing_at}
use Rattle.season.specs.Storeys.{fresh}
use Rattle.season.proofs.Built.{quota-fits}
use Rattle.season.proofs.Orders.{counted-standing, counted-damaged, no_room, not-blank, damaged, too_few, begun}
use Rattle.season.proofs.season_to.Goals as goal
use Rattle.season.proofs.season_to.Goals.{Else-not-suits, Else-not-all_zero, In-Ok, After-needed-next}

-- what the first two tests say
fits : (q : Else-not-suits) → let a = q.args in (limits a.head & eqb (length a.target.now) (size_of a.head)) ≡ true
fits q = sym q.suits.ensures ∙ q.if-not-suits.false

lim : (q : Else-not-suits) → Lim q.args.head
lim q = limits-hold q.args.head (suited q.args.target.now q.args.head (fits q)).0

quotas : (q : Else-not-suits) → let h = q.args.head in (3 ≤ quota h) × (quota h ≤ h.m)
quotas q = quota-fits q.args.head (lim q).m4

-- and what the count does
count : (q : In-Ok) → let a = q.args in ((standing_at a.card.now a.at).code ≡ 0) × (q.in-Ok.count ≡ length (standing_at a.card.now a.at).records)
count q = let a = q.args in counted-standing a.card.now a.at q.in-Ok.count (rw q.in-Ok.is at q.counted.ensures.value)

next : (q : After-needed-next) → let a = q.args in q.needed-next.result ≡ fresh (quota a.head) (q.in-Ok.count + 1)
next q = rw q.quota.ensures at q.needed-next.ensures

pub returns-then-not-suits : goal.returns-then-not-suits
returns-then-not-suits c =
    let a = c.args in
    (no_room a.head a.at a.target.now (standing_at a.card.now a.at) (sym c.suits.ensures ∙ c.if-not-suits.true), refl)

pub returns-then-not-all_zero : goal.returns-then-not-all_zero
returns-then-not-all_zero c =
    let a = c.args in
    let fit = fits (goal.at.returns-then-not-all_zero c).Else-not-suits in
    (not-blank a.head a.at a.target.now (standing_at a.card.now a.at) fit (sym c.all_zero.ensures ∙ c.if-not-all_zero.true), refl)

pub returns-in_default : goal.returns-in_default
returns-in_default c =
    let a = c.args in
    let fit = fits (goal.at.returns-in_default c).Else-not-suits in
    let bad = counted-damaged a.card.now a.at _ (rw c.in_default.is at c.counted.ensures.value) in
    (damaged a.head a.at a.target.now (standing_at a.card.now a.at) fit (sym c.all_zero.ensures ∙ c.if-not-all_zero.false) bad, refl)

pub quota-requires : goal.quota-requires
quota-requires c = (lim (goal.at.quota-requires c).Else-not-suits).m32

pub needed-next-requires : goal.needed-next-requires
needed-next-requires c =
    let sized = (goal.at.needed-next-requires c).Else-not-suits in
    let qs = quotas sized in
    let e = c.quota.ensures in
    let most = rw c.in-Ok.is at c.counted.ensures.most in
    (omega (arith, qs), omega (arith, qs, (lim sized).m32), omega arith, omega (arith, most))

pub overflow_add-head : goal.overflow_add-head
overflow_add-head c = omega (arith, (lim (goal.at.overflow_add-head c).Else-not-suits).n4096)

pub returns-then-head-next : goal.returns-then-head-next
returns-then-head-next c =
    let a = c.args in
    let sized = (goal.at.returns-then-head-next c).Else-not-suits in
    let n = count (goal.at.returns-then-head-next c).In-Ok in
    let is = rw n.1 at (next (goal.at.returns-then-head-next c).After-needed-next) in
    (too_few a.head a.at a.target.now (standing_at a.card.now a.at) (fits sized) (sym c.all_zero.ensures ∙ c.if-not-all_zero.false) n.0 (omega (arith, quotas sized)) _ is c.if-head-next.true, refl)

pub build-requires : goal.build-requires
build-requires c =
    let sized = (goal.at.build-requires c).Else-not-suits in
    let s = suited c.args.target.now c.args.head (fits sized) in
    let n = count (goal.at.build-requires c).In-Ok in
    record {
      head_value = (s.0, s.1, sym c.all_zero.ensures ∙ c.if-not-all_zero.false);
      count_value = (n.1, rw c.in-Ok.is at c.counted.ensures.most, next (goal.at.build-requires c).After-needed-next, omega (arith, c.if-head-next.false));
    }

pub returns : goal.returns
returns c =
    let a = c.args in
    let sized = (goal.at.returns c).Else-not-suits in
    let n = count (goal.at.returns c).In-Ok in
    let is = rw n.1 at (next (goal.at.returns c).After-needed-next) in
    begun a.head a.at a.target.now (standing_at a.card.now a.at) (fits sized) (sym c.all_zero.ensures ∙ c.if-not-all_zero.false) n.0 (omega (arith, quotas sized)) _ is (omega (arith, c.if-head-next.false))
    ∙ ap accept (sym c.build.ensures)
