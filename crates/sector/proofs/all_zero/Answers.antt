-- `sector::all_zero`: the four quarters and what is left of them are the whole.
use Rattle.std.proofs.Common.{rules, ◌≡◌, ◌++◌, ◌↔◌, get_or, IsTrue, EachIndex, sym, ◌∙◌}
use borrow.Author.Tests.{eq-eqb, ne_eqb}
use Rattle.sector.proofs.Zeros.{quarters, zeros-each}
use Rattle.sector.proofs.all_zero.Goals as goal

pub returns-then-together-eq0 : goal.returns-then-together-eq0
returns-then-together-eq0 c =
    let s = c.args.s.now in
    let ab = c.split_at-3.result in
    let cd = c.split_at-4.result in
    let r = c.split_at.result.1.now in
    let whole : s ≡ ((ab.0.now ++ ab.1.now) ++ (cd.0.now ++ cd.1.now)) ++ r = cc in
    let each : IsTrue c.all.result ↔ EachIndex r (λ k. get_or r k 0 ≡ 0) = search rules in
    zeros-each c.all.result r each ∙ sym (quarters _ _ _ _ r s _ _ whole c.together.ensures (eq-eqb c.together.result 0 c.if-together-eq0.true))

pub returns-else-together-eq0 : goal.returns-else-together-eq0
returns-else-together-eq0 c =
    let s = c.args.s.now in
    let ab = c.split_at-3.result in
    let cd = c.split_at-4.result in
    let r = c.split_at.result.1.now in
    let whole : s ≡ ((ab.0.now ++ ab.1.now) ++ (cd.0.now ++ cd.1.now)) ++ r = cc in
    let some = ne_eqb c.together.result 0 c.if-together-eq0.false in
    some ∙ sym (quarters _ _ _ _ r s _ _ whole c.together.ensures some)
